-- The laws of the definitions in specs/, a file for each.
pub mod EffectLaws
pub mod RunLaws
pub mod StartLaws
pub mod RulesLaws
pub mod RunAppendLaws
pub mod LengthLaws
pub mod FrontLaws
pub mod CutLaws
pub mod RefusedRunStandsLaws
pub mod EachNumberExactlyLaws
pub mod OneAnswerLaws
pub mod OrOfItsBlitsLaws
pub mod AcceptedAgainLaws
