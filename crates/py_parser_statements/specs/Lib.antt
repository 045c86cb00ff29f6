pub mod Blocks
pub mod Statements
pub mod Suites
