pub mod Rounds
mod Decimals
pub mod LinesHeard
pub mod Texts
mod LineTaken
mod LinesRead
pub mod Numbers
pub mod FramesHeard
pub mod FrameBegun
mod FrameTaken
mod FramesRead
