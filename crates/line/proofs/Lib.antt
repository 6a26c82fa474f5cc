-- The laws of the definitions in specs/, a file for each.
pub mod MoveLaws
pub mod WalkLaws
pub mod LineLaws
pub mod DotsLaws
