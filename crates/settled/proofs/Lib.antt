-- The laws of a settled blit: its words, and when it is settled.
pub mod StoreLaws
pub mod RunLaws
pub mod AlikeLaws
pub mod AlikeRowsLaws
pub mod AgreeLaws
pub mod WordsLaws
pub mod SettledLaws
