pub mod HeldLemmas
pub mod DefinitionLemmas
pub mod FunctionLemmas
pub mod StartLemmas
pub mod VariableLemmas
pub mod OutlineLemmas
mod Examples
