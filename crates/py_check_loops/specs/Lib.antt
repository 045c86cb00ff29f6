pub mod Loops
pub mod Heads
pub mod Views
