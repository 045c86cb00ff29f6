pub mod Members
pub mod Context
