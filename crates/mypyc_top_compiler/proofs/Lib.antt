pub mod TypeLemmas
pub mod Values
pub mod NoteLemmas
pub mod FaultLemmas
pub mod SuitLemmas
pub mod CodeLemmas
