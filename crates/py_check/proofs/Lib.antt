mod Samples
mod ClassSamples
pub mod WalkLemmas
pub mod WholeLemmas
pub mod BodyLemmas
pub mod Kept
pub mod Bound
pub mod Sights
pub mod NameRows
pub mod Roles
pub mod Fixed
pub mod Bindings
