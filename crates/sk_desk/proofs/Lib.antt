pub mod Journals
pub mod Zeros
pub mod Idles
pub mod Writings
pub mod Crossing
