use Rattle.std.proofs.Common.{◌≡◌, ◌++◌, length, map, drop}
use Rattle.py_check_context.specs.Context.{context}
use Rattle.py_check_names.specs.Walked.{func_trees}
use Rattle.py_check_definitions.specs.Views.{headed_of, headed_all}
use Rattle.py_check_definitions.proofs.functions.functions_of.Given as goal

abbrev pub invariant-loop-f : goal.invariant-loop-f
invariant-loop-f l =
    (length l.functions.items ≡ l.f-index)
    × (map headed_of l.functions.items ++ headed_all (context l.scope).meaning (func_trees (drop l.f-index l.found)) (drop l.f-index l.owners) (drop l.f-index l.insides)
    ≡ headed_all (context l.scope).meaning (func_trees l.found) l.owners l.insides)
