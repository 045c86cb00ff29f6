use Rattle.std.proofs.Common.{◌≡◌, map, drop}
use Rattle.py_syntax.specs.Expressions.{expr_tree}
use Rattle.py_check_context.specs.Context.{context}
use Rattle.py_check_definitions.specs.Classes.{bases_pass}
use Rattle.py_check_definitions.specs.Views.{classes_seen}
use Rattle.py_check_definitions.proofs.definitions.bases_pass.Given as goal

abbrev pub invariant-loop-base : goal.invariant-loop-base
invariant-loop-base l =
    bases_pass (classes_seen l.classes) (context l.scope) l.number (map expr_tree (drop l.base-index l.bases))
    ≡ bases_pass (classes_seen l.classes) (context l.scope) l.number (map expr_tree l.bases)
