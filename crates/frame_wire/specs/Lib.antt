pub mod Requests
pub mod Frames
pub mod Said
pub mod Decoded
pub mod Second
pub mod Fed
