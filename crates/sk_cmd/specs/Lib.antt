pub mod Reading
pub mod Fault
pub mod Counts
pub mod Arguments
pub mod Options
pub mod Table
pub mod ReadOnly
pub mod Laws
