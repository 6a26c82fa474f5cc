-- What only contracts speak of stands in Inner: no promise to a caller rests on it.
pub mod Inner
