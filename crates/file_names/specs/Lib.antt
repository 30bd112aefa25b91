pub mod Paths
pub mod Tree
pub mod Turns
pub mod Folders
pub mod Lines
pub mod Said
