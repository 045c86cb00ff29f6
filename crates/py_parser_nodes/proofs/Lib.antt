pub mod DefinitionNodes
pub mod StatementNodes
