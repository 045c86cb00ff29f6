pub mod Report
pub mod Ran
pub mod Live
pub mod Parts
pub mod AtOnce
pub mod Methods
pub mod Waiting
pub mod Advancing
