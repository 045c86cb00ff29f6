pub mod ReaderState
pub mod Held
pub mod Reading
pub mod Steps
