-- What only contracts speak of: no promise to a caller rests on it.
pub mod Types
pub mod Placed
pub mod Apart
pub mod Spans
