-- What a reader must believe of a whole blit, in the order of paper 01, and what is proved of it.
pub mod WriteBack
pub mod Blit
pub mod OnlyDChanges
pub mod UnusedStay
pub mod ALine
pub mod CopyOfOneRow
pub mod CopyOfARectangle
pub mod WhenItIsSafe
pub mod AcceptedAgain
pub mod OneAnswer
