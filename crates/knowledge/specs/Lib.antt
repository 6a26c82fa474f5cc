-- What a reader must believe of the folder's knowledge.
pub mod Knowledge
