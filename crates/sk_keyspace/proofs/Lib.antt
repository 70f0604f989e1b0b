pub mod Classes
pub mod Deleting
pub mod Editing
pub mod Living
pub mod Looking
pub mod OnKeys
pub mod Scores
