pub mod Typing
pub mod TypingSeen
pub mod Laws
