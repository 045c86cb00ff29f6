pub mod DisplayLemmas
pub mod EntryLemmas
pub mod PlaceLemmas
