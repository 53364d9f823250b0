pub mod ReadEffects
pub mod Buffers
pub mod Fetching
pub mod Framed
