pub mod Civil
pub mod CronText
pub mod Fault
pub mod Offset
pub mod Read
pub mod Reading
pub mod Slot
pub mod Times
