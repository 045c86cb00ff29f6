pub mod BindLemmas
pub mod DefinitionLemmas
mod Examples
pub mod FaultLemmas
pub mod ReadLemmas
pub mod StatementLemmas
pub mod TableLemmas
