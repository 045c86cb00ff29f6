pub mod FormLemmas
pub mod SuitLemmas
pub mod SuiteLemmas
pub mod ModuleLemmas
pub mod Common
