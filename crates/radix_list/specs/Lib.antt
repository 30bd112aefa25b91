pub mod Packing
pub mod Puts
pub mod Tails
