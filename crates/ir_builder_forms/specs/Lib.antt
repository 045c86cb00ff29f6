pub mod Forms
pub mod Least
