pub mod Order
pub mod Places
pub mod Ranges
pub mod Rising
pub mod Scores
pub mod Splits
pub mod Ties
pub mod Windows
