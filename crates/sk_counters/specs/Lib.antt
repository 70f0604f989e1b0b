pub mod Counters
pub mod Date
