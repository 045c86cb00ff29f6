-- What is kept of expressions while they are read, and what it stands for.
use Rattle.std.specs.Prelude.{◌≡◌, ◌≤◌, ◌<◌, List, length, map, Ok}
use Rattle.py_syntax.specs.declared.expression.Expr.{Expr}
use Rattle.py_syntax.specs.declared.expression.Arg.{Arg}
use Rattle.py_syntax.specs.declared.expression.CmpOp.{CmpOp}
use Rattle.py_syntax.specs.declared.token.Token.{Token}
use Rattle.py_syntax.specs.Expressions.{ExprTree, ArgTree, expr_tree, arg_tree, entry_tree, comparison_tree, exprs_of, arguments_of, entries_of, comparisons_of}
use Rattle.py_parser_grammar.specs.declared.place.Place.{Place}
use Rattle.py_parser_grammar.specs.Levels.{Piece, level, exprs_level, arguments_level, entries_level, comparisons_level}
use Rattle.py_parser_grammar.specs.Readings.{finish}
use Rattle.py_parser_expressions.specs.declared.parsed.Parsed.{Parsed}
use Rattle.py_parser_expressions.specs.declared.parsed.Row.{Row}

-- the expression that was read
abbrev pub piece_of : Parsed → Piece
piece_of x = record { tree = expr_tree x.expr.value; begins = x.begin }

-- the same, and the place behind it
abbrev pub seen : Parsed → Piece × Place
seen x = (piece_of x, x.place)

-- the level is the tree's, and within the limit; nothing changes where the expression is finished once more
pub record IsFinished (x : Parsed) : Type 0 where
  pub level : x.level ≡ level (expr_tree x.expr.value)
  pub small : x.level ≤ 100
  pub closed : finish (piece_of x) x.place ≡ Ok (seen x)

-- reading went on, within the tokens
pub record Moves (ts : List Token) (p : Place) (x : Parsed) : Type 0 where
  pub on : p.at < x.place.at
  pub within : x.place.at ≤ length ts
  pub finished : IsFinished x

-- rows of parts, and the places behind them
abbrev pub exprs_seen : Row Expr → List ExprTree × Place
exprs_seen x = (map expr_tree x.list, x.place)

abbrev pub args_seen : Row Arg → List ArgTree × Place
args_seen x = (map arg_tree x.list, x.place)

abbrev pub entries_seen : Row (Expr × Expr) → List (ExprTree × ExprTree) × Place
entries_seen x = (map entry_tree x.list, x.place)

abbrev pub comparisons_seen : Row (CmpOp × Expr) → List (CmpOp × ExprTree) × Place
comparisons_seen x = (map comparison_tree x.list, x.place)

-- the level of a row is the greatest of its parts', and within the limit
pub record AreExprs (x : Row Expr) : Type 0 where
  pub level : x.level ≡ exprs_level (exprs_of (map expr_tree x.list))
  pub small : x.level ≤ 100

pub record AreArgs (x : Row Arg) : Type 0 where
  pub level : x.level ≡ arguments_level (arguments_of (map arg_tree x.list))
  pub small : x.level ≤ 100

pub record AreEntries (x : Row (Expr × Expr)) : Type 0 where
  pub level : x.level ≡ entries_level (entries_of (map entry_tree x.list))
  pub small : x.level ≤ 100

pub record AreComparisons (x : Row (CmpOp × Expr)) : Type 0 where
  pub level : x.level ≡ comparisons_level (comparisons_of (map comparison_tree x.list))
  pub small : x.level ≤ 100
