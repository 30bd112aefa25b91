mod Passing
mod Replies
mod Calls
mod Looping
pub mod Turning
