pub mod BlockLemmas
pub mod SpellingLemmas
pub mod NameLemmas
pub mod LineLemmas
pub mod NumberLemmas
pub mod Whole
pub mod Common
