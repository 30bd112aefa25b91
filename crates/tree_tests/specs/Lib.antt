pub mod Blobs
pub mod TwoNodes
