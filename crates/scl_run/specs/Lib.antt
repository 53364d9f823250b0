pub mod Reasons
pub mod Endings
pub mod InputClass
pub mod CaptureInput
pub mod HeaderInput
pub mod Job
pub mod Performing
pub mod Runs
