pub mod WalkLemmas
pub mod PlaceLemmas
pub mod EventLemmas
pub mod OrderLemmas
pub mod TableLemmas
pub mod NewLemmas
mod Examples
