use Rattle.std.proofs.Common.{◌≡◌, ◌++◌, map, drop}
use Rattle.py_syntax.specs.Statements.{body_tree}
use Rattle.py_check_names.specs.Outline.{methods_in}
use Rattle.py_check_definitions.proofs.owners.add_methods.Given as goal

abbrev pub invariant-loop-s : goal.invariant-loop-s
invariant-loop-s l =
    l.owners ++ map (λ f. l.owner) (methods_in (body_tree (drop l.s-index l.body))) ≡ l.fn.owners ++ map (λ f. l.owner) (methods_in (body_tree l.body))
