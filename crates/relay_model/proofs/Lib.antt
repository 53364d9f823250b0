pub mod Tales
pub mod Settling
pub mod WorkedTales
