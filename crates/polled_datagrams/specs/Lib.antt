pub mod Offers
pub mod Sending
pub mod Receiving
