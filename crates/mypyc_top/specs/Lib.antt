pub mod Running
pub mod Answer
pub mod Modes
pub mod Answered
pub mod Plans
pub mod Reads
