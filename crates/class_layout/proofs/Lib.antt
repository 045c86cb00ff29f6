pub mod MergeLemmas
pub mod OrderLemmas
pub mod LawLemmas
pub mod KindLemmas
pub mod LayoutLemmas
pub mod WellTypedLemmas
