-- The laws of the folder.
pub mod PutLaws
pub mod FoldedLaws
pub mod FoldingLaws
pub mod OneAnswerLaws
