-- The laws of a blit's stores gathered, and of the words that these become.
pub mod GatherLaws
pub mod GathersTheLongest
pub mod WordsLaws
pub mod LeadingLaws
pub mod StoresLaws
