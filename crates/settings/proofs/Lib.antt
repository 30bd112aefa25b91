mod Worked
mod Walks
pub mod Parses
pub mod Taken
pub mod RangeLemmas
pub mod ReadingLemmas
pub mod ChoiceLemmas
pub mod SpellingLemmas
pub mod Powers
pub mod MergeLemmas
