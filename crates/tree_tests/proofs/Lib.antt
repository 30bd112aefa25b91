pub mod Opens
pub mod Updates
pub mod Lying
pub mod Tickets
pub mod Steady
