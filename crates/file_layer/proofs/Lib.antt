mod Recents
mod Wheres
pub mod Alone
mod Lying
mod PathMaps
mod Standing
mod StoreTells
mod MapSteps
mod NoBlob
pub mod Mapped
mod Entries
pub mod StreamEnds
mod Worked
