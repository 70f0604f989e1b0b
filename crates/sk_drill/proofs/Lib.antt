mod FirstJobs
mod Playing
mod Small
mod SoFar
pub mod Each
pub mod Answered
pub mod OnTime
pub mod Assigning
pub mod Apart
pub mod Lanes
pub mod Ending
pub mod Ordinary
pub mod Inner
pub mod Commands
pub mod Asked
pub mod Counted
pub mod Crossing
