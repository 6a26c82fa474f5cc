-- The laws of the definitions in specs/, a file for each.
-- The functions' proofs name what each call gives, the last one first: `cc` would find it too, in seconds for each.
pub mod SetupLaws
pub mod StoreLaws
pub mod RowsLaws
pub mod CountLaws
pub mod ChannelLaws
pub mod SixteenBitsLaws
pub mod EarlyLaws
