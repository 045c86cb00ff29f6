mod Standing
pub mod Whole
