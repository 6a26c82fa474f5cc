-- The laws of dependence.
pub mod TableLaws
pub mod DependsLaws
