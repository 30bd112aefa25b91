pub mod Lists
pub mod Growing
pub mod Telling
pub mod Finding
