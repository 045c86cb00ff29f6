pub mod Alike
pub mod Unset
pub mod Without
pub mod Emptied
pub mod Cleared
pub mod Walk
pub mod Ways
pub mod Same
