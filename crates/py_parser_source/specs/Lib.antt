pub mod Entries
pub mod Texts
pub mod Modules
pub mod Faults
pub mod Sayings
pub mod Laws
