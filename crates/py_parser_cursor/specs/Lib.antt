pub mod Augmenting
pub mod Comparisons
pub mod Gives
pub mod Moves
pub mod Names
pub mod Operators
pub mod Texts
