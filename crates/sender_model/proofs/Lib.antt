mod PiecesFound
pub mod ClosedComputed
pub mod Refused
pub mod Told
mod Packed
mod WorkedClosings
mod WorkedSends
mod WorkedLimits
pub mod CarriedBytes
pub mod Ahead
