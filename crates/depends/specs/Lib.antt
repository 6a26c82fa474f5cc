-- What a reader must believe of dependence.
pub mod Types
pub mod Depends
