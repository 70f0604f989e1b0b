pub mod Comes
pub mod Lines
pub mod Reports
pub mod Unread
pub mod Walks
pub mod Whole
