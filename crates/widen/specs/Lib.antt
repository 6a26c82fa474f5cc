-- What a reader must believe of a widening.
pub mod Old
pub mod Widen
pub mod OneAnswer
pub mod WidenedIsAccepted
