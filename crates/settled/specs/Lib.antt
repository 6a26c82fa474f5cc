-- What a reader must believe of a settled blit, in the order of paper 01: its words, and when it is settled; Inner
-- apart.
pub mod Words
pub mod Settled
pub mod Inner
