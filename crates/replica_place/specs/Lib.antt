pub mod Chosen
pub mod Order
