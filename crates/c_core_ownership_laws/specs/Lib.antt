pub mod Shares
pub mod Order
pub mod Frames
pub mod Groups
pub mod Alike
pub mod Laws
