pub mod Held
pub mod JobFilter
pub mod Next
pub mod Order
pub mod Seats
pub mod Phases
pub mod Works
