pub mod Lent
pub mod Made
