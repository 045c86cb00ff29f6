-- What the statements and functions that the program lists stand for.
use Rattle.std.specs.Prelude.{List, map}
use denote.Ref.{Bor}
use Rattle.py_syntax.specs.declared.statement.Stmt.{Stmt}
use Rattle.py_syntax.specs.declared.statement.Func.{Func}
use Rattle.py_syntax.specs.Statements.{StmtTree, stmt_tree, FuncTree, func_tree}

abbrev pub trees : List (Bor Stmt) → List StmtTree
trees found = map (λ s. stmt_tree s.now) found

abbrev pub func_trees : List (Bor Func) → List FuncTree
func_trees found = map (λ f. func_tree f.now) found
