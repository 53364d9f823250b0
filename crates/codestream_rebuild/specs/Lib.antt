pub mod Segments
pub mod Keys
pub mod Opening
