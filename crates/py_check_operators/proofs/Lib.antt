pub mod NameLemmas
pub mod FactLemmas
pub mod ChainLemmas
pub mod OperatorLemmas
