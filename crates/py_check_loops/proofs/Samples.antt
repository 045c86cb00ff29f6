-- The head of a `for`, typed by computing.
use Rattle.std.proofs.Common.{◌≡◌, refl, ℕ, List, [], ◌∷◌, None, codes}
use Rattle.std.specs.Prelude.{unwrap_or}
use Rattle.std.specs.Map.{lookup}
use Rattle.std.specs.Str.{bytes_eq}
use Rattle.py_syntax.specs.declared.token.Span.{Span}
use Rattle.py_syntax.specs.Expressions as tree
use Rattle.py_syntax.specs.Expressions.{ExprTree, at}
use Rattle.py_syntax.specs.Statements as node
use Rattle.py_syntax.specs.Statements.{StmtTree, Suite, no_stmts, stmt_then}
use Rattle.py_typed.specs.Sorts as sort
use Rattle.py_check_context.specs.declared.scope.Meaning.{Meaning}
use Rattle.py_check_context.specs.declared.scope.Meaning.TheVariants as meaning
use Rattle.py_check_context.specs.Context.{Context, has}
use Rattle.py_check_messages.specs.Seen.{diag}
use Rattle.py_check_messages.specs.Messages.{no_target, invalid_index}
use Rattle.py_check_places.specs.Places.{Known}
use Rattle.py_check_loops.specs.Heads.{for_head}

abbrev p : Span
p = record { line = 1; col = 1 }

-- in a function f(y: Optional[int], l: list[int])
abbrev names : List (List ℕ × Meaning)
names = (codes "y", meaning.Local 0) ∷ (codes "l", meaning.Local 1) ∷ []

abbrev c : Context
c = record {
  meaning = λ x. unwrap_or (lookup (bytes_eq x) names) meaning.Unknown;
  signatures = [];
  classes = [];
  member = λ n a. None;
  init = λ n. None;
  inside = None;
}

-- where y is known not to be None
abbrev start : Known
start = record {
  types = record {
    locals = has (sort.Optional sort.Int) ∷ has (sort.ListOf sort.Int) ∷ [];
    globals = [];
  };
  locals_bound = 0 ∷ 1 ∷ [];
  globals_bound = [];
  names = 0 ∷ [];
}

abbrev name : List ℕ → ExprTree
name x = at (tree.Name x) p

abbrev item : ExprTree
item = at (tree.Index (name (codes "l")) (name (codes "y"))) p

abbrev loop : Suite → StmtTree
loop body = node.at (node.For item (name (codes "l")) body) p

-- `for l[y] in l: pass`: the target is an item of a list
no_name : (for_head c start (loop (stmt_then (node.at node.Pass p) no_stmts)) p item (name (codes "l"))).said ≡ diag p no_target ∷ []
no_name = refl

-- `for l[y] in l: y = None`: where the target is looked at, nothing is known of y any more
dropped : (for_head c start (loop (stmt_then (node.at (node.Assign (name (codes "y")) (at tree.Nothing p)) p) no_stmts)) p item (name (codes "l"))).said
    ≡ diag p (invalid_index [] (sort.Optional sort.Int) (sort.ListOf sort.Int) sort.Int) ∷ []
dropped = refl
