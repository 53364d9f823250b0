pub mod Settings
pub mod Job
pub mod Turns
pub mod Headlines
