pub mod AnnotationLemmas
mod Examples
pub mod LookUpLemmas
