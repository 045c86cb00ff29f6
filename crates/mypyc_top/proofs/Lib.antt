pub mod RunLemmas
pub mod PlanLemmas
pub mod ReadLemmas
pub mod Statuses
pub mod AllowedLemmas
pub mod ReadsLemmas
