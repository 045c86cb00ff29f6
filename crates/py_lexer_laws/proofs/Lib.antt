pub mod Characters
pub mod Words
pub mod Texts
pub mod Fit
