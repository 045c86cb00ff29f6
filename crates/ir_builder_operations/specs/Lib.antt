pub mod Operating
pub mod Selecting
pub mod Boxes
pub mod Taking
pub mod Rows
pub mod Entries
pub mod Converting
