pub mod Datagrams
pub mod Offering
pub mod Taking
pub mod Advancing
pub mod Stepping
