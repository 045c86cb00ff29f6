pub mod DefinitionLemmas
mod HeaderLemmas
mod Examples
