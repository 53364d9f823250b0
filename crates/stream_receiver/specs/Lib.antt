pub mod Datagrams
pub mod States
pub mod Views
