mod Zips
mod Requests
mod Foreigners
