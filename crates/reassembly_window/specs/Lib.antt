pub mod Slots
pub mod Cells
pub mod Windows
pub mod Answers
