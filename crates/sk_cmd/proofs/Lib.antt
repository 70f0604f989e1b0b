mod Agree
mod AgreeCounts
pub mod AgreeArguments
pub mod Names
pub mod AgreeTable
mod Exists
mod ExistsCounts
pub mod ExistsNumbers
mod ExistsArguments
pub mod ExistsTable
