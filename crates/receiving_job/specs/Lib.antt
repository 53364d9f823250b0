pub mod Sinks
pub mod Giving
pub mod Job
pub mod Turns
