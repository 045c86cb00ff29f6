pub mod Derived
