pub mod Reading
pub mod Numbers
pub mod Lists
pub mod Cuts
pub mod Crons
pub mod OrderLines
pub mod Args
