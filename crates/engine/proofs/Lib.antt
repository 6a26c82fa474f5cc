-- The laws of the choice between blocks and words.
pub mod EngineLaws
