pub mod Queue
pub mod Relays
pub mod Lines
pub mod Laws
