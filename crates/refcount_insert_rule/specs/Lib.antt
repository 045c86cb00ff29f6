pub mod Rule
pub mod Counted
pub mod Laws
