pub mod Inputs
pub mod ParseJob
pub mod Writing
