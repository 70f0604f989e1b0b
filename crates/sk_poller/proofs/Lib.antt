pub mod Reports
pub mod Polls
pub mod TurnForms
pub mod Drafts
