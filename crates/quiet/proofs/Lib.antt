-- The laws of a quiet blit: its words as a sequence, then the blit, cut between two rows, and copying.
pub mod StreamLaws
pub mod QuietLaws
pub mod CutLaws
pub mod CopyLaws
