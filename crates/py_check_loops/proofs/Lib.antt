pub mod CourseLemmas
pub mod HeadLemmas
mod Samples
