pub mod State
pub mod Operations
pub mod ExpressionMeaning
pub mod WaysOut
pub mod StatementMeaning
pub mod SourceRun
pub mod Laws
pub mod Soundness
