pub mod Book
pub mod Loads
pub mod Placed
pub mod Places
