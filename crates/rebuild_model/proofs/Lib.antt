pub mod Stripped
pub mod EmptyPackets
pub mod Rebuilt
pub mod RebuiltStreams
pub mod Numbered
pub mod BuiltCodestreams
pub mod BuiltAccepted
mod WorkedStrips
mod WorkedRebuilds
