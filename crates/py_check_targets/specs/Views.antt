-- What targets, types and statements on the heap, new names and attributes stand for, and what is left of the parts of a value.
use Rattle.std.specs.Prelude.{ℕ, List, drop, Option}
use Rattle.std.specs.Option.{option_map}
use Rattle.std.specs.declared.boxed.Box.{Box}
use Rattle.std.specs.declared.alloc.Global.{Global}
use Rattle.py_syntax.specs.Expressions.{ExprTree, expr_tree}
use Rattle.py_typed.specs.declared.statement.TStmtKind.{TStmtKind}
use Rattle.py_typed.specs.declared.types.Ty.{Ty}
use Rattle.py_typed.specs.Sorts.{Sort, sort}
use Rattle.py_typed.specs.Statements.{TypedAct, typed_act}
use Rattle.py_check_values.specs.declared.aims.Aim as declared
use Rattle.py_check_values.specs.Aims.{Aim, aim_seen}
use Rattle.py_check_targets.specs.declared.attributes.OwnAttribute.{OwnAttribute}
use Rattle.py_check_targets.specs.declared.several.NewName.{NewName}

abbrev pub boxed_aim : Box declared.Aim Global → Aim
boxed_aim a = aim_seen a.value

abbrev pub boxed_sort : Box Ty Global → Sort
boxed_sort t = sort t.value

abbrev pub boxed_act : Box TStmtKind Global → TypedAct
boxed_act a = typed_act a.value

abbrev pub part_seen : NewName → List ℕ × Sort
part_seen part = (part.name.now, sort part.ty.now)

abbrev pub own_seen : OwnAttribute → ExprTree × List ℕ
own_seen own = (expr_tree own.object.now, own.name.now)

-- the parts from one of this number on
abbrev pub parts_from : ℕ → Option (List Sort) → Option (List Sort)
parts_from i parts = option_map (λ ts. drop i ts) parts
