-- The laws behind the demands.
pub mod AgreesLaws
pub mod LearnLaws
pub mod SettledKnownLaws
pub mod FoldedJobLaws
pub mod GoodStepLaws
pub mod StepRunLaws
pub mod StandsLaws
pub mod DemandThreeLaws
pub mod BareStepsLaws
pub mod SettledAreReplacedLaws
pub mod ScreenLaws
