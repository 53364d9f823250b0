pub mod Draws
pub mod Generator
pub mod Trial
pub mod DrawLaws
pub mod GeneratorLaws
pub mod TrialLaws
