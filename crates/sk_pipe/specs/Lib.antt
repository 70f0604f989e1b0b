pub mod PipeCommand
pub mod Session
pub mod Reliable
pub mod Pipe
pub mod Run
