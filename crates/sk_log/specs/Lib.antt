pub mod File
pub mod Appending
pub mod Reading
pub mod Window
pub mod Causes
pub mod Commit
