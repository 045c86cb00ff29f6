pub mod WalkLemmas
pub mod TableLemmas
pub mod OutlineLemmas
pub mod MeaningLemmas
