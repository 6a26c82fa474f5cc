-- The laws of a blit's stores without a memory.
pub mod OnlyDLaws
pub mod StoresLaws
pub mod LaidLaws
pub mod OnMemoryLaws
