-- What a reader must believe of the reading of a bench card, in the order of paper 01; Inner apart.
pub mod Letters
pub mod Text
pub mod RamLine
pub mod Keys
pub mod Reading
pub mod Job
pub mod Inner
