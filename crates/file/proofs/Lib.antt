-- The laws of the register file.
pub mod PlaceLaws
pub mod FileLaws
pub mod PointersLaws
