pub mod Accepts
pub mod Counting
pub mod Fields
pub mod Progress
pub mod Reached
pub mod Rows
pub mod Slots
pub mod Taking
