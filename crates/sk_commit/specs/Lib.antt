pub mod Rules
pub mod Shared
