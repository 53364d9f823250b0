pub mod Components
pub mod Corners
pub mod Counting
pub mod Courses
pub mod Quotients
pub mod ThreeBands
