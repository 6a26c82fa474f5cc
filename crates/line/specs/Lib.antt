-- What a reader must believe of a line, in the order of paper 01, and what is proved of it; Inner apart.
pub mod Types
pub mod Setup
pub mod Dot
pub mod Texture
pub mod Word
pub mod Sing
pub mod Move
pub mod Accumulator
pub mod Line
pub mod Leave
pub mod Octants
pub mod Inner
