pub mod Node
pub mod Frames
pub mod Asking
pub mod Said
pub mod Transcript
pub mod Grammar
