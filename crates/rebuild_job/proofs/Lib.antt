pub mod Fits
pub mod Promised
