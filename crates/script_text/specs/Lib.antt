pub mod Fields
pub mod Requests
pub mod Lines
pub mod Said
pub mod Decoded
pub mod Begun
