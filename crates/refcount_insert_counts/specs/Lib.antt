pub mod Known
pub mod Counts
pub mod Ends
pub mod Edges
