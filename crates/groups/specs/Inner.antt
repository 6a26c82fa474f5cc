-- What only contracts speak of: no promise to a caller rests on it.
pub mod Leading
pub mod Values
