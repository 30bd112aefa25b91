mod Worked
pub mod RequestLemmas
pub mod ReplyLemmas
mod PairLemmas
mod SpokenLemmas
