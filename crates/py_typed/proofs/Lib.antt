pub mod TypeLemmas
pub mod ExpressionLemmas
pub mod StatementLemmas
pub mod FitLemmas
pub mod ClassLemmas
pub mod AboveLemmas
pub mod ExceptionLemmas
pub mod OneWayLemmas
pub mod OnwardLemmas
pub mod JoinLemmas
mod Samples
