pub mod FramesState
pub mod Reading
pub mod Writing
