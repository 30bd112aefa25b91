mod Worked
pub mod Sums
pub mod Parts
pub mod Blobs
pub mod Counted
pub mod Appends
pub mod Writes
pub mod Merged
pub mod Workers
pub mod Loads
pub mod Grid
pub mod Cells
pub mod Records
pub mod Standing
pub mod OneCaller
pub mod OwnEvents
pub mod PrintedLines
pub mod Later
pub mod CallEnds
pub mod Closing
pub mod Watching
mod Rows
