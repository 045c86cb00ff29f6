pub mod Binds
pub mod Faults
pub mod NameReading
pub mod OperatorReading
pub mod Sights
pub mod StartLemmas
pub mod TextReading
