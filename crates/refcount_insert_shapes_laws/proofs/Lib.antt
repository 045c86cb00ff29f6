mod Jumps
mod Codes
mod Bodies
mod Blocks
mod Begins
mod Lines
mod Functions
pub mod Whole
