-- The laws of sk_model, each over whole runs.
pub mod Acknowledged
pub mod Callbacks
pub mod Causes
pub mod Leaders
pub mod LiveJobs
pub mod LockHolders
pub mod Readings
pub mod Reliable
pub mod Runs
pub mod Starving
