-- The laws of a smear.
pub mod SmearLaws
