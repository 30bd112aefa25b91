pub mod Tickets
pub mod Published
pub mod Turning
pub mod Depths
pub mod Halves
pub mod Edges
