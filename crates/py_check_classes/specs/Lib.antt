pub mod Names
pub mod Bodies
pub mod Rows
pub mod Headers
pub mod Kept
pub mod Views
pub mod Laws
