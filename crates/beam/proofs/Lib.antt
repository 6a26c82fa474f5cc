-- The laws of the beam.
pub mod SatisfiedLaws
pub mod WaitLaws
