-- What a reader must believe of a folding, in the order of paper 01, and what is proved of it; Inner apart.
pub mod Types
pub mod Fold
pub mod Kept
pub mod Folding
pub mod Answer
pub mod OneAnswer
pub mod Inner
