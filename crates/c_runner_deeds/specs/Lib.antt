pub mod Handing
pub mod States
pub mod Parts
pub mod Deeds
pub mod Objects
pub mod Ours
