pub mod Names
pub mod Clashes
pub mod Tables
pub mod Views
