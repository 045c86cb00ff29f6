pub mod DefinitionReading
pub mod ModuleReading
