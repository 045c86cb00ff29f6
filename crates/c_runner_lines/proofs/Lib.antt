pub mod FeedLemmas
pub mod HeldLemmas
pub mod PieceLemmas
pub mod TakeLemmas
pub mod ItemLemmas
mod Samples
