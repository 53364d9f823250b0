mod Offered
mod Working
mod Ended
pub mod Lawful
