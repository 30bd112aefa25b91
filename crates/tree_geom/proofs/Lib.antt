pub mod Spans
pub mod Pages
pub mod Shifts
pub mod Touches
mod Worked
pub mod Covers
