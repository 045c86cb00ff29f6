pub mod Displays
pub mod Dicts
pub mod Entries
pub mod Indexing
pub mod Literals
