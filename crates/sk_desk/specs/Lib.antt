pub mod Counts
pub mod Pass
pub mod Log
pub mod Journal
pub mod Writing
pub mod State
pub mod Calls
