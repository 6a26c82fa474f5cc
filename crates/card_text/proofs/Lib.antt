-- The laws of the card, a file for each of its definitions.
pub mod RunLaws
pub mod WritingLaws
pub mod PrintingLaws
pub mod CardLaws
