pub mod Deleted
pub mod Sorted
