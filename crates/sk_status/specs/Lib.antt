pub mod Line
pub mod Page
pub mod Tally
