pub mod Uncounted
pub mod Laws
