pub mod History
pub mod Turns
pub mod Told
pub mod Shown
