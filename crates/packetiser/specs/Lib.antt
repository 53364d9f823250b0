pub mod Plans
pub mod Filling
pub mod Filled
pub mod Knowing
pub mod Packing
pub mod Sending
