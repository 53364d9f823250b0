pub mod Gives
pub mod Takes
pub mod TurnsTaken
pub mod SoFar
pub mod FramesRead
pub mod Finished
