pub mod Admission
pub mod Orders
pub mod Insertions
pub mod Worked
