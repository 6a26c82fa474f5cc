-- The laws of a playfield's colour numbers.
pub mod NumbersLaws
pub mod PlanesLaws
