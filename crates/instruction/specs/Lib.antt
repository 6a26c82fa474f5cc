-- What a reader must believe of an instruction; in Inner, what only contracts inside speak of.
pub mod Instruction
pub mod Permitted
pub mod Refusal
pub mod Effect
pub mod Inner
