mod Counts
mod Goals
mod Standing
mod Steps
pub mod Whole
