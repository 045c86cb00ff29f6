pub mod Assignments
pub mod Views
