pub mod Table
pub mod Values
pub mod Words
pub mod Spelling
pub mod Parser
pub mod Reading
pub mod File
pub mod Merged
