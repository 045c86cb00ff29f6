pub mod Words
pub mod WordsStep
pub mod Limits
