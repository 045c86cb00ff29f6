pub mod Statements
pub mod WellTyped
pub mod Modules
pub mod Variables
pub mod Entries
pub mod Narrowing
