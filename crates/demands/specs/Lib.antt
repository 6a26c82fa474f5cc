-- What is demanded of a folding, of a line, and of the registers that are neither a blit's nor the folder's.
pub mod DemandThree
pub mod SettledAreReplaced
pub mod ALineIsNeverSettled
pub mod ASettledBlitNeverGoesRound
pub mod ScreenTouchesNeither
