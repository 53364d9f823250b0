pub mod Drawing
pub mod HeaderBits
pub mod DrawnContents
pub mod Precincts
pub mod ShapeHeads
pub mod MadePackets
mod WorkedDraws
mod WorkedTrials
pub mod Trials
mod WorkedPacks
pub mod GeneratedParts
pub mod SentTrials
