pub mod Built
pub mod Held
pub mod Slices
