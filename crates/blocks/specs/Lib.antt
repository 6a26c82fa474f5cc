-- What only contracts speak of stands in Inner: no promise to a caller rests on blocks.
pub mod Inner
