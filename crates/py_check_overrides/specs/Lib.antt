pub mod Overrides
pub mod Views
pub mod Lines
pub mod Judged
pub mod Own
pub mod Laws
