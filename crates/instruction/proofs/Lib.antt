-- The laws of an instruction.
pub mod InstructionLaws
pub mod PermittedLaws
pub mod EffectLaws
