pub mod Matching
pub mod Lines
pub mod Follows
