pub mod Ahead
pub mod Anchors
pub mod Later
pub mod Least
