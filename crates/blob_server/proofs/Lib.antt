pub mod Accounting
pub mod Beginnings
pub mod Frames
pub mod Idling
pub mod Lents
pub mod Rule
pub mod Taking
