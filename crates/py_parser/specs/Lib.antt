pub mod Definitions
pub mod Whole
