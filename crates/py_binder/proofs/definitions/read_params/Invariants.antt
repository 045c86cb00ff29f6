use Rattle.std.proofs.Common.{◌≡◌, ◌++◌, map, drop}
use Rattle.py_syntax.specs.Statements.{param_tree}
use Rattle.py_binder.specs.Sights.{params_reads}
use Rattle.py_binder.specs.Collected.{sights_of}
use Rattle.py_binder.proofs.definitions.read_params.Given as goal

abbrev pub invariant-loop-mark : goal.invariant-loop-mark
invariant-loop-mark l =
    sights_of l.sights.items ++ params_reads (map param_tree (drop l.mark-index l.params))
    ≡ sights_of l.fn.sights.items ++ params_reads (map param_tree l.params)
