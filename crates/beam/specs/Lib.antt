-- What a reader must believe of the beam; in Inner, what only contracts inside speak of.
pub mod Beam
pub mod Satisfied
pub mod Wait
pub mod Inner
