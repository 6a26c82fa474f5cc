-- What only contracts speak of: no promise to a caller rests on it.
pub mod Types
pub mod Each
pub mod Ignores
pub mod Terms
pub mod Carry
pub mod Place
