pub mod AssignmentLemmas
pub mod RefusalLemmas
pub mod UpdateLemmas
mod Samples
