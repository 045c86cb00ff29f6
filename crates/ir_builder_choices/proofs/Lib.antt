pub mod BuildLemmas
pub mod OpenLemmas
pub mod ChoiceLemmas
pub mod Common
