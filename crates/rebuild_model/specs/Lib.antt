pub mod Stripping
pub mod StrippingLaws
pub mod Rebuilding
pub mod RebuildingLaws
pub mod HeaderLaws
