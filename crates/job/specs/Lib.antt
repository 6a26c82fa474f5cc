-- What a reader must believe of a job, in the order of paper 01.
pub mod Length
pub mod Kind
pub mod Types
pub mod Step
pub mod Steps
pub mod Examples
