use Rattle.std.proofs.Common.{◌≡◌, List, ◌++◌, replicate}
use Rattle.py_lexer.specs.Remaining.{behind}
use Rattle.py_lexer.specs.Remaining.{dedent}
use Rattle.py_lexer.specs.Tokens.{Item}
use Rattle.py_lexer.proofs.indent.close.Given as goal

abbrev pub invariant-loop-rest : goal.invariant-loop-rest
invariant-loop-rest l = (items : List Item) → behind l.initial.tokens.items (replicate l.initial.rest (dedent l.place) ++ items) ≡ behind l.tokens.items (replicate l.rest (dedent l.place) ++ items)

abbrev pub decreases-loop-rest : goal.decreases-loop-rest
decreases-loop-rest l = l.rest
