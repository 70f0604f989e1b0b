mod Addresses
mod Buckets
mod Edits
mod Finds
mod Growth
pub mod Ordered
mod Renewed
mod Slots
pub mod Counts
mod CountSteps
