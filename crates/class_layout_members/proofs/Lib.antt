pub mod RowLemmas
pub mod FirstLemmas
pub mod NameLemmas
pub mod AttributeLemmas
pub mod AgreementLemmas
mod Samples
