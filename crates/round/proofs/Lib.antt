-- The laws of the definitions in specs/, a file for each.
pub mod BetweenLaws
pub mod FewLaws
pub mod RowLaws
pub mod ChannelLaws
pub mod ClearLaws
pub mod DotLaws
pub mod LineLaws
pub mod ReachLaws
pub mod RangeLaws
pub mod AreaLaws
pub mod RoundLaws
pub mod PlainLaws
