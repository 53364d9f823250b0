pub mod Delivering
pub mod DeliveringLaws
pub mod Receiving
pub mod ReceivingLaws
pub mod PickingLaws
