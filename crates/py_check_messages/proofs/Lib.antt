pub mod SayLemmas
pub mod RowLemmas
mod Examples
