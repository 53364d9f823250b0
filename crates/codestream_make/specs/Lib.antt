pub mod HeaderLengths
pub mod Faults
pub mod Making
pub mod Gathering
pub mod Generating
pub mod Drawn
