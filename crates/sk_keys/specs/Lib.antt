pub mod Emptied
pub mod Index
pub mod Moves
pub mod Past
