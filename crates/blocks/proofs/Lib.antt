-- The laws of a block, and of all the blocks of a blit.
pub mod SuppliedLaws
pub mod FinalsLaws
pub mod BlockLaws
pub mod RepeatsLaws
pub mod RunningLaws
