pub mod Boxes
pub mod Several
pub mod Values
pub mod Rows
pub mod Misfits
