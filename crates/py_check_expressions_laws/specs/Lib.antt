pub mod Laws
pub mod WellTyped
pub mod Bare
