pub mod Settings
pub mod Linked
pub mod Naming
pub mod Offering
pub mod Job
pub mod Sending
pub mod SentStreams
