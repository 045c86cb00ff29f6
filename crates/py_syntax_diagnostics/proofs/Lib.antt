pub mod OrderLemmas
mod Examples
