pub mod World
pub mod Woven
pub mod Steps
pub mod Walk
pub mod Promises
pub mod Standing
pub mod Acts
