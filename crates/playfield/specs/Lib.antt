-- What a reader must believe of a playfield, in the order of paper 02's W9; Inner apart.
pub mod Plane
pub mod Playfield
pub mod Inner
