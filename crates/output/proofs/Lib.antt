-- The laws of what is laid into the output.
pub mod PutLaws
pub mod StoresLaws
