pub mod Suiting
pub mod Modules
pub mod Kinds
pub mod Parts
pub mod Lined
pub mod Counting
pub mod Targets
