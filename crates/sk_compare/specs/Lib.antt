pub mod Exchange
pub mod Alike
pub mod DifferenceText
