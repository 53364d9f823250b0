pub mod Sums
pub mod Orders
pub mod Looks
pub mod Fields
pub mod Rules
pub mod Steps
