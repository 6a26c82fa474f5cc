-- What only contracts speak of stands in Inner: no promise to a caller rests on a block.
pub mod Inner
