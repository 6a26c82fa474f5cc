-- What only contracts speak of: no promise to a caller rests on it.
pub mod Ranges
pub mod AreaRange
pub mod Channels
