pub mod Dicts
pub mod Lists
pub mod Tuples
pub mod Instances
