pub mod Raises
pub mod Handlers
pub mod Views
