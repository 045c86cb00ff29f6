pub mod Deeds
pub mod Members
pub mod Bodies
pub mod Tables
pub mod Views
