-- What a reader must believe of one line of picture, in the order of paper 02's W9, and what is proved of it; Inner
-- apart.
pub mod Line
pub mod Refusal
pub mod Picture
pub mod OneAnswer
pub mod DelayOfNought
pub mod DelayMovesRight
pub mod OnePlaneTwoColours
pub mod TwelveBits
pub mod Inner
