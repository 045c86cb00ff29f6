pub mod Fronts
pub mod Names
pub mod Rises
mod Examples
