-- The laws of the test before blocks.
pub mod PlacedLaws
pub mod SpanLaws
pub mod ClearLaws
pub mod ApartLaws
