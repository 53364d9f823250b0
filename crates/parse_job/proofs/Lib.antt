pub mod Faulty
pub mod Lawful
pub mod Lacking
pub mod Telling
pub mod Open
pub mod Prompt
pub mod Turns
