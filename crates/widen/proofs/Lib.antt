-- The laws of a widening.
pub mod OldLaws
pub mod WidenLaws
pub mod OneAnswer
pub mod WidenedIsAccepted
