pub mod Link
pub mod Door
pub mod Own
pub mod Loop
pub mod FarKeeps
