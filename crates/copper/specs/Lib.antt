-- What a reader must believe of a frame.
pub mod Frame
pub mod Why
pub mod Answer
