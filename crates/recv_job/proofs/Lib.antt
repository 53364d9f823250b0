pub mod Datagrams
pub mod Turned
pub mod SoFar
pub mod Promised
