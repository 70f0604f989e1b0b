pub mod Delays
pub mod Orders
