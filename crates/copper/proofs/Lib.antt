-- The laws of a frame.
pub mod FrameLaws
