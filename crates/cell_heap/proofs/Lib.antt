pub mod CellLemmas
pub mod OursLemmas
pub mod NumberedLemmas
pub mod HeldLemmas
pub mod MarkLemmas
pub mod ReleaseLemmas
pub mod ItemLemmas
pub mod RefillLemmas
pub mod KeptLemmas
pub mod ChangeLemmas
pub mod PairLemmas
mod Examples
