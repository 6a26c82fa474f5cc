-- What a reader must believe of a quiet blit.
pub mod Words
pub mod Stream
pub mod Quiet
