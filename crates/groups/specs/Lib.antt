-- What a reader must believe of a blit's stores gathered: the groups, their words, and what is proved of them; Inner
-- apart.
pub mod Gather
pub mod Words
pub mod GathersTheLongest
pub mod Inner
