pub mod Promised
pub mod Readings
pub mod SaidBytes
pub mod WorkedForgeries
