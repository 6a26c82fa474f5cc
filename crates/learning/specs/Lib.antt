-- What a reader must believe of the folder's learning.
pub mod Learn
