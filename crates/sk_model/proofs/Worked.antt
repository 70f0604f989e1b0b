-- Worked commands, computed from the definitions.
mod Batches
mod Locks
mod Plain
mod Seats
