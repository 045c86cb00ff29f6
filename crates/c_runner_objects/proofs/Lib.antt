pub mod DictLemmas
pub mod ListLemmas
pub mod TupleLemmas
pub mod InstanceLemmas
pub mod OwnLemmas
