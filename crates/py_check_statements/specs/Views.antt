-- What the program's statements stand for.
use Rattle.std.specs.Prelude.{ℕ, List, map, Option}
use Rattle.std.specs.declared.boxed.Box.{Box}
use Rattle.std.specs.declared.alloc.Global.{Global}
use Rattle.value_core.specs.declared.exception.ExcClass.{ExcClass}
use Rattle.py_typed.specs.declared.statement.TStmt.{TStmt}
use Rattle.py_typed.specs.Expressions.{TypedExpr}
use Rattle.py_typed.specs.Statements.{TypedStmt, TypedTarget, typed_stmt}
use Rattle.py_check_coercions.specs.Boxes.{boxed}
use Rattle.py_check_places.specs.Places.{Known, Way}
use Rattle.py_check_exceptions.specs.Views.{boxed_handler_head}
use Rattle.py_check_statements.specs.declared.parts.Guarded.{Guarded}
use Rattle.py_check_statements.specs.declared.tries.Clause.{Clause}

abbrev pub boxed_stmt : Box TStmt Global → TypedStmt
boxed_stmt s = typed_stmt s.value

abbrev pub guarded_seen : Guarded → TypedExpr × List TypedStmt
guarded_seen g = (boxed g.test, map typed_stmt g.body)

abbrev pub clause_seen : Clause → (List ExcClass × Option TypedTarget) × List TypedStmt
clause_seen c = (boxed_handler_head c.head, map typed_stmt c.body)

-- what is known where a test of an `if` is asked, and at the open ends before it
abbrev pub way : Known → Option (List ℕ) → Way
way k ends = record { at = k; ends = ends }
