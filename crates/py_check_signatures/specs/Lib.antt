pub mod Headers
pub mod Definitions
pub mod Views
