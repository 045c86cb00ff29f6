pub mod ViewLemmas
pub mod ToldLemmas
pub mod LineLemmas
pub mod ClashLemmas
pub mod JudgeLemmas
pub mod TakenLemmas
pub mod LawLemmas
pub mod MemberLemmas
mod Examples
