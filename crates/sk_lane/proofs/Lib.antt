pub mod Passing
pub mod Carried
pub mod TurnsOn
pub mod StoryOn
pub mod Okay
pub mod Starts
