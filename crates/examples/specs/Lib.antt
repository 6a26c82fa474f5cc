-- The worked examples of paper 01.
pub mod Examples
