pub mod Evenness
pub mod Lowering
pub mod Raising
pub mod Turns
