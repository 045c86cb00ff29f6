pub mod BodyLemmas
pub mod PartLemmas
pub mod SizeLemmas
mod Samples
pub mod TryLemmas
