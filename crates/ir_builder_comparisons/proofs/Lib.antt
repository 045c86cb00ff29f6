pub mod ComparisonLemmas
pub mod TruthLemmas
pub mod Common
