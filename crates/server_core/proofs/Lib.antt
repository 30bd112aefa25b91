pub mod Writing
pub mod GoingOn
pub mod Settled
pub mod Endings
pub mod Conversed
pub mod Served
pub mod Exact
pub mod Alone
mod Told
