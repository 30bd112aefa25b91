pub mod Stream
pub mod Listener
pub mod Files
pub mod Accepting
pub mod Waiting
