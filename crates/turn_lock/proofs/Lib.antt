pub mod Histories
pub mod Views
pub mod Keeping
pub mod Turning
pub mod Passes
