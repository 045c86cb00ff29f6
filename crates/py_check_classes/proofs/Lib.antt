pub mod OrderLemmas
pub mod NameLemmas
pub mod HeaderLemmas
pub mod StepLemmas
mod Examples
