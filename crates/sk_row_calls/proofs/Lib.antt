pub mod Crossing
pub mod OneQueue
