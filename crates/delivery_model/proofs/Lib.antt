pub mod Delivered
pub mod Received
mod WorkedDeliveries
mod Picked
mod WorkedReceptions
mod WorkedForgery
