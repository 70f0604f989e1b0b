pub mod Index
pub mod Puts
pub mod Purging
pub mod Moves
pub mod Past
pub mod Unseen
