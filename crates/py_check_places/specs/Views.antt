-- What the program's places and rows of expressions stand for.
use denote.Ref.{Bor}
use Rattle.std.specs.Prelude.{List, map}
use Rattle.py_syntax.specs.declared.expression.Expr.{Expr}
use Rattle.py_syntax.specs.Expressions.{ExprTree, expr_tree}
use Rattle.py_check_context.specs.Context.{var_sorts}
use Rattle.py_check_places.specs.declared.places.Place.{Place}
use Rattle.py_check_places.specs.Places.{Known}

abbrev pub known_at : Place → Known
known_at p = record {
  types = var_sorts p.types;
  locals_bound = p.locals_bound.items;
  globals_bound = p.globals_bound.items;
  names = p.names.items;
}

abbrev pub trees : List (Bor Expr) → List ExprTree
trees es = map (λ e. expr_tree e.now) es
