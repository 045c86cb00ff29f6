pub mod Module
pub mod Outcome
pub mod Parts
pub mod Tables
pub mod Fixed
