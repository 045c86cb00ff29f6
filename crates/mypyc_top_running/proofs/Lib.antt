pub mod RunGaveLemmas
pub mod TookLemmas
