pub mod ArmLemmas
pub mod BindingLemmas
mod Examples
