-- What only contracts inside speak of; no promise to people rests on it.
pub mod Blitted
pub mod Taken
