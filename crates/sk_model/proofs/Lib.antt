pub mod Tools
pub mod Changes
pub mod Commands
pub mod Theorems
pub mod Replay
pub mod Worked
