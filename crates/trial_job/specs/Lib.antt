pub mod Receiving
pub mod Job
pub mod Counting
pub mod Delivering
