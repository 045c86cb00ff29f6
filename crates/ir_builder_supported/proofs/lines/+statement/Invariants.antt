use Rattle.ir_builder_supported.proofs.Common.{◌≡◌, ℕ, ◌+◌, ◌*◌, max, List, map, drop, TStmt, size-TStmt, typed_suite, typed_arm, arms_of, least, suite_forms, arms_forms}
use denote.Param.Weighed.{most}
use Rattle.py_typed.specs.declared.expression.TExpr.{TExpr}
use Rattle.ir_builder_supported.proofs.lines.+statement.Given as goal

-- the size of an arm of an `if`, which is that of its body
abbrev arm_size : TExpr × List TStmt → ℕ
arm_size a = max 0 (max (most size-TStmt a.1) 0)

abbrev pub decreases-in_statement : goal.decreases-in_statement
decreases-in_statement l = size-TStmt l.s.now * 3

abbrev pub decreases-in_suite : goal.decreases-in_suite
decreases-in_suite l = most size-TStmt l.body.now * 3 + 1

abbrev pub decreases-in_arms : goal.decreases-in_arms
decreases-in_arms l = most arm_size l.arms.now * 3 + 2

abbrev pub invariant-in_suite-loop-s : goal.invariant-in_suite-loop-s
invariant-in_suite-loop-s l =
    least l.found (suite_forms (typed_suite (drop l.s-index l.body))) ≡ least l.fn.found (suite_forms (typed_suite l.body))

abbrev pub invariant-in_arms-loop-test : goal.invariant-in_arms-loop-test
invariant-in_arms-loop-test l =
    least l.found (arms_forms (arms_of (map typed_arm (drop l.test-index l.arms)))) ≡ least l.fn.found (arms_forms (arms_of (map typed_arm l.arms)))
