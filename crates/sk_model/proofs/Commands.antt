-- The changes of the commands, a family each: each meets what the laws ask of it.
pub mod All
pub mod Batches
pub mod Periodic
pub mod Rescue
pub mod Sets
pub mod Unique
pub mod Workers
