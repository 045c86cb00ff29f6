pub mod Facts
pub mod Names
pub mod Operators
pub mod Chains
pub mod Operands
pub mod Choices
