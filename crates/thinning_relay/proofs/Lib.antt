pub mod Flushing
pub mod Levels
pub mod Loops
pub mod Sharing
pub mod Turning
pub mod Turned
pub mod Making
pub mod Taking
