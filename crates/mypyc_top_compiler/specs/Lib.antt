pub mod Types
pub mod Source
pub mod SourceRun
pub mod Diagnostics
pub mod Faults
pub mod FaultLaws
pub mod Found
pub mod Faithful
