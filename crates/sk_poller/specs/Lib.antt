pub mod Loop
pub mod Request
pub mod Passed
pub mod Counts
pub mod Event
pub mod Stage
pub mod TurnForm
