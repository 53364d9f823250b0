mod Counted
mod Cut
mod DeliverySteps
mod Few
mod Made
mod Taken
