-- What a reader must believe of going round, in the order of paper 02's W12, and the plain rows that are safe from it; Inner
-- apart.
pub mod Between
pub mod Channel
pub mod Line
pub mod Round
pub mod Plain
pub mod Inner
