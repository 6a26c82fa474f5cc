-- What a reader must believe of a blit's stores without a memory.
pub mod Stores
