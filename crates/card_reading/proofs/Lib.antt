-- The laws of a card's reading, a file for each of its definitions.
pub mod TextLaws
pub mod ReadingLaws
pub mod RamLaws
pub mod JobLaws
pub mod KeysLaws
