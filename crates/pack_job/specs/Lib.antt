pub mod SentInput
pub mod PackJob
pub mod PackedStreams
