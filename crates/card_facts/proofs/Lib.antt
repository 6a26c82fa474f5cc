-- The laws behind the card's theorems.
pub mod FirstBytesLaws
pub mod TextFitsLaws
