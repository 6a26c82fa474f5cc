-- The laws of knowledge.
pub mod KnowledgeLaws
