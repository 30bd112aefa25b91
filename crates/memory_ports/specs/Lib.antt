pub mod Streams
pub mod Listening
