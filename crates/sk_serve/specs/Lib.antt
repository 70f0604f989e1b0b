pub mod Session
pub mod HeldSession
pub mod Attending
pub mod Ending
pub mod Visits
pub mod Server
