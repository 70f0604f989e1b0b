pub mod Taking
pub mod Crossing
pub mod Ends
