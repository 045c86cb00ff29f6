pub mod Ledgers
pub mod Held
