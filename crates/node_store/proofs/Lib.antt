pub mod Zipped
pub mod Ranges
