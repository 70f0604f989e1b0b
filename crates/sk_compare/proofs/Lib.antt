pub mod Same
pub mod Texts
pub mod Meeting
pub mod Telling
