use Rattle.ir_builder_statements.proofs.Common.{◌≡◌, ◌++◌, drop, left, planned}
use Rattle.ir_builder_statements.proofs.exits.pass_on.Given as goal

abbrev pub invariant-loop-exit : goal.invariant-loop-exit
invariant-loop-exit l = l.exits.items ++ left (planned l.plan) (drop l.exit-index l.inner) ≡ l.initial.exits.items ++ left (planned l.plan) l.inner
