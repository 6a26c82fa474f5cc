-- The laws of the definitions in specs/, a file for each.
pub mod BlitLaws
pub mod OnlyDChanges
pub mod OneAnswer
pub mod UnusedStay
pub mod ALine
pub mod CopyOfARectangle
pub mod CopyOfOneRow
pub mod AcceptedAgain
pub mod WhenItIsSafe
