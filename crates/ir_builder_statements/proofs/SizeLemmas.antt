-- The size of an arm of an `if`, which is that of its body.
use Rattle.ir_builder_statements.proofs.Common.{ℕ, List, max, TExpr, TStmt, size-TStmt}
use denote.Param.Weighed.{most}

abbrev pub arm_size : TExpr × List TStmt → ℕ
arm_size a = max 0 (max (most size-TStmt a.1) 0)
