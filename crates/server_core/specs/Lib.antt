pub mod Talk
pub mod Conversing
pub mod Conversed
pub mod Progress
pub mod Served
pub mod Laws
