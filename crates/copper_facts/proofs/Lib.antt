-- The laws behind the Copper's theorems.
pub mod BeamLaws
pub mod CourseLaws
pub mod EndLaws
pub mod AcceptedAgainLaws
pub mod CutLaws
pub mod WhyLaws
pub mod OneAnswerLaws
pub mod ManualLaws
