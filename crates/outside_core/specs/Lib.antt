pub mod Counts
pub mod Bytes
pub mod Schedule
pub mod States
pub mod Reading
pub mod Streams
