pub mod Job
pub mod Growing
pub mod Promises
