-- What a reader must believe of the refusals of a blit, in the order of paper 01, and what is proved of it; Inner apart.
pub mod Touch
pub mod Plan
pub mod Number
pub mod Refusal
pub mod OneAnswer
pub mod Inner
