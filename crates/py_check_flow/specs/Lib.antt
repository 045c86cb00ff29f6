pub mod Closed
pub mod Bindings
