pub mod Balance
mod Samples
