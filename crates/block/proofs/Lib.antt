-- The laws of a block's loops.
pub mod EachLaws
pub mod MaskLaws
pub mod ShiftLaws
pub mod MixLaws
pub mod FillLaws
pub mod PlaceLaws
