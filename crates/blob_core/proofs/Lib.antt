mod Example
pub mod Lists
pub mod Growing
pub mod Finding
pub mod Taken
pub mod Keeping
pub mod Running
mod Reaching
mod Reading
mod Folding
mod Promising
mod Needed
mod Worked
mod Refusing
mod Cutting
mod Logs
mod Acting
mod Rowing
mod Onward
mod Walking
mod Sound
