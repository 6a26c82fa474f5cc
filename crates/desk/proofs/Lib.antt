-- The laws behind the entries.
pub mod PlaceLaws
