pub mod Decision
pub mod Order
