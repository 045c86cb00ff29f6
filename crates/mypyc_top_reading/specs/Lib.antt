pub mod TextFaults
pub mod Refusals
