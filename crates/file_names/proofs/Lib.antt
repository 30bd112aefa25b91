mod Worked
pub mod Splitting
pub mod Children
pub mod Maps
pub mod Entering
pub mod Listings
pub mod Hearing
mod Rows
mod FieldLemmas
mod NumberLemmas
