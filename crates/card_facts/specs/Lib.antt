-- What is proved of the card's definitions.
pub mod KeysAreRegisters
pub mod FirstBytesDecide
pub mod TextFits
