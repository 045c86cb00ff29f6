-- A target that is no row of targets.
use Rattle.std.proofs.Common.{◌≡◌, false, Option, refl}
use Rattle.py_syntax.specs.Expressions as tree
use Rattle.py_syntax.specs.Expressions.{ExprTree, at}
use Rattle.py_typed.specs.Sorts.{Sort}
use Rattle.py_check_context.specs.Context.{Context}
use Rattle.py_check_places.specs.Places.{Known}
use Rattle.py_check_places.specs.Shapes.{is_row}
use Rattle.py_check_targets.specs.Targets.{target_aims, aims_behind}

-- no name is bound before it, so it is the same with nothing known of the value and behind it
pub one_look : (c : Context) (k : Known) (target : ExprTree) (t : Option Sort) → is_row target ≡ false → target_aims c k target ≡ aims_behind c k target t
one_look c k (at (tree.TupleOf es) span) t one = absurd (cc)
one_look c k (at (tree.ListOf es) span) t one = absurd (cc)
one_look c k (at _ span) t one = refl
