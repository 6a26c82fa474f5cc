-- The laws of one line of picture, and the proofs of what is proved of it.
pub mod PaintedLaws
pub mod PictureLaws
pub mod LineLaws
pub mod OneAnswer
pub mod DelayOfNought
pub mod DelayMovesRight
pub mod OnePlaneTwoColours
pub mod TwelveBits
