-- What a reader must believe of a run, in the order of paper 01; then what is proved of it.
pub mod Types
pub mod Effect
pub mod Run
pub mod Answer
pub mod RunAppend
pub mod RefusedRunStands
pub mod EachNumberExactly
pub mod OrOfItsBlits
pub mod AcceptedAgain
pub mod OneAnswer
