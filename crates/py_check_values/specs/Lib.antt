pub mod Aims
pub mod Assignments
pub mod Returns
