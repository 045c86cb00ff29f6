mod Examples
pub mod ExpressionLemmas
pub mod StatementLemmas
pub mod TokenLemmas
