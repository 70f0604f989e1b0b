pub mod Batching
pub mod Callbacks
pub mod Counting
pub mod Locking
pub mod Rescuing
pub mod Seated
pub mod Routing
pub mod Slots
