pub mod Merging
pub mod Orders
pub mod Layouts
pub mod Laws
