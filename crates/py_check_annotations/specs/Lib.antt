pub mod Names
pub mod Annotations
