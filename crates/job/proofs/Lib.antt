-- The laws of the definitions in specs/, a file for each.
pub mod LengthLaws
pub mod KindLaws
pub mod StepLaws
pub mod StepsLaws
pub mod WellCutLaws
