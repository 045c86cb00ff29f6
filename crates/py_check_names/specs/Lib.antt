pub mod Builtins
pub mod Walked
pub mod Outline
pub mod Meanings
