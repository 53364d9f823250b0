pub mod Places
pub mod TreeState
pub mod LabelStops
pub mod Kinds
pub mod LeafReading
pub mod LeafGoing
pub mod LeafWriting
pub mod MetNodes
