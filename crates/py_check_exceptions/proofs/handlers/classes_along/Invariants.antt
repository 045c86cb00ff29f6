use Rattle.std.proofs.Common.{map, drop}
use Rattle.py_syntax.specs.Expressions.{expr_tree, exprs_of}
use Rattle.py_check_context.specs.Context.{context}
use Rattle.py_check_messages.proofs.RowLemmas.{Remains}
use Rattle.py_check_places.specs.Views.{known_at}
use Rattle.py_check_exceptions.specs.Handlers.{classes_along}
use Rattle.py_check_exceptions.proofs.handlers.classes_along.Given as goal

abbrev pub invariant-loop-e : goal.invariant-loop-e
invariant-loop-e l =
    Remains l.found l.fn.faults l.faults
    (classes_along (context l.scope) (known_at l.place) (exprs_of (map expr_tree l.es)))
    (classes_along (context l.scope) (known_at l.place) (exprs_of (map expr_tree (drop l.e-index l.es))))
