pub mod Strips
pub mod Filling
pub mod Coming
pub mod Opens
