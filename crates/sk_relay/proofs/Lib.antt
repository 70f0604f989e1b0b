mod Errors
mod Runs
