pub mod InputClassLaws
pub mod CaptureInputLaws
pub mod HeaderInputLaws
pub mod Performed
pub mod Decided
pub mod Written
