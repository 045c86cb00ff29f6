-- A value with what was said of it, a target that was read with an operand, and whether a part was typed.
use Rattle.std.specs.Prelude.{◌≡◌, Bool, List, ◌++◌, is_some}
use Rattle.std.specs.Option.{option_map}
use Rattle.py_syntax_diagnostics.specs.declared.diagnostic.Diag.{Diag}
use Rattle.py_typed.specs.Expressions.{TypedExpr}
use Rattle.py_check_coercions.specs.Boxes.{boxed}
use Rattle.py_check_messages.specs.Seen.{Seen}
use Rattle.py_check_assignments.specs.declared.assignments.Given.{Given}
use Rattle.py_check_assignments.specs.declared.updates.Operands.{Operands}

abbrev pub given_seen : Given → Seen TypedExpr
given_seen given = record { got = option_map boxed given.e; said = given.said }

abbrev pub operands_seen : Operands → TypedExpr × TypedExpr
operands_seen operands = (boxed operands.read, boxed operands.e)

-- a function returned whether a part is typed, and put its diagnostics behind those that there were
abbrev pub Shows : {A : Type 0} → Bool → List Diag → List Diag → Seen A → Type 0
Shows typed old new s = (typed ≡ is_some s.got) × (new ≡ old ++ s.said)
