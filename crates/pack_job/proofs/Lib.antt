pub mod Octets
pub mod Turns
pub mod Stays
pub mod Lawful
pub mod Promised
