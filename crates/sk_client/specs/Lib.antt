pub mod Jid
pub mod Drafts
pub mod Push
pub mod Requests
pub mod Making
pub mod Bulk
