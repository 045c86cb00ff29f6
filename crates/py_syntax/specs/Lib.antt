pub mod Texts
pub mod Tokens
pub mod Expressions
pub mod Statements
