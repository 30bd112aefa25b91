pub mod Files
pub mod Sessions
pub mod Faults
pub mod PathMap
pub mod Laws
pub mod Served
pub mod Places
