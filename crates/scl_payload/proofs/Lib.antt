pub mod Layouts
pub mod Keeping
