-- What a reader must believe of the register file.
pub mod Places
pub mod File
pub mod Pointers
