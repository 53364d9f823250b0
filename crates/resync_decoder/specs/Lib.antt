pub mod Runs
pub mod InForce
pub mod States
pub mod Finding
pub mod Views
