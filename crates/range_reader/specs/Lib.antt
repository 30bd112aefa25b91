pub mod Filling
pub mod Reading
pub mod Faults
pub mod Holders
pub mod Answers
pub mod Ranges
pub mod Opened
