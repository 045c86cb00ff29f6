pub mod Sights
pub mod Scope
pub mod Faults
pub mod Collected
pub mod Tables
pub mod Laws
