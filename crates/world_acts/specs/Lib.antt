pub mod Worlds
pub mod Together
pub mod Pages
pub mod Turns
pub mod Puts
pub mod Reads
pub mod Commuting
