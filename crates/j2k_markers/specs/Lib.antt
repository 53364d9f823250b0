pub mod Fields
pub mod Refusals
pub mod Sound
pub mod Before
pub mod Walking
pub mod Layout
