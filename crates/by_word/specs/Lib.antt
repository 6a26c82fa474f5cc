-- What only contracts speak of stands in Inner.
pub mod Inner
