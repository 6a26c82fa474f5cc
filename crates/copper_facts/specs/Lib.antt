-- What is proved of the Copper's definitions.
pub mod Course
pub mod BeamGoesForward
pub mod EveryFrameEnds
pub mod AcceptedAgain
pub mod CutAndGoOn
pub mod RefusedChangesNothing
pub mod WhyExactly
pub mod OneAnswer
pub mod ManualHolds
