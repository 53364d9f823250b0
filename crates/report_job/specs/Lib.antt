pub mod Job
pub mod Tallies
pub mod LinesJoin
pub mod Headlines
pub mod Readings
