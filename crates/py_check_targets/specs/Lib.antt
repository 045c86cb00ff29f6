pub mod Attributes
pub mod Targets
pub mod Views
