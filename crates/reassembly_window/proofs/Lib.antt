pub mod Rotations
pub mod Rings
pub mod Scans
pub mod Entries
pub mod Offers
pub mod Nexts
