pub mod BoundLemmas
mod Examples
