pub mod SayingLemmas
pub mod ListLemmas
