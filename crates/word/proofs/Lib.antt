-- The laws of the definitions in specs/, a file for each.
pub mod Base
pub mod ChoiceLaws
pub mod RepeatLaws
pub mod WordLaws
pub mod LaidLaws
pub mod PointerLaws
pub mod RoundLaws
pub mod MemoryLaws
pub mod StrideLaws
pub mod EvenLaws
pub mod SizeLaws
pub mod MaskLaws
pub mod ShiftLaws
pub mod LogicLaws
pub mod FillLaws
