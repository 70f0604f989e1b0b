pub mod Identity
pub mod Chain
pub mod Applied
pub mod Sending
pub mod GatedRun
pub mod Running
