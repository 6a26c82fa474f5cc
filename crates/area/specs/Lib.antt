-- What a reader must believe of an area blit's words, in the order of paper 01.
pub mod Types
pub mod Setup
pub mod Flow
pub mod With
pub mod Fetch
pub mod Finish
pub mod Store
pub mod Move
pub mod Rows
