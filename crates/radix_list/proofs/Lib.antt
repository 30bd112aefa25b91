pub mod Grouping
pub mod Tailed
pub mod Tree
