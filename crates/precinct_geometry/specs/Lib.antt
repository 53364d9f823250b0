pub mod Components
pub mod Courses
pub mod Spans
