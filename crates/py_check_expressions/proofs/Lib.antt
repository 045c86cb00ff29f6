pub mod Quiet
pub mod NodeLemmas
pub mod RowLemmas
pub mod SizeLemmas
mod Samples
