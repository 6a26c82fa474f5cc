-- The laws of a line drawn.
pub mod DrawLaws
