pub mod Bounds
pub mod Order
pub mod Pair
pub mod Pairs
pub mod Scores
