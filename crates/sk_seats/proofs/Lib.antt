pub mod Counting
pub mod Seating
pub mod Working
pub mod Upwards
