pub mod Summary
pub mod Programs
pub mod Takes
