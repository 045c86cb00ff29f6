pub mod Sharing
pub mod Pairs
pub mod Detours
pub mod Plan
pub mod Layout
