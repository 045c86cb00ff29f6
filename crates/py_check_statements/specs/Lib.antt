pub mod Bodies
pub mod Deletions
pub mod Views
