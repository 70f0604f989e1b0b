pub mod Writes
pub mod Serving
