pub mod Receivers
pub mod Numbered
pub mod Flushing
pub mod Levels
pub mod Passing
pub mod Relaying
