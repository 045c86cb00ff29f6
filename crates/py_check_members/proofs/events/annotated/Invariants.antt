use Rattle.std.proofs.Common.{◌≡◌, map, drop}
use Rattle.std.specs.Map.{lookup}
use Rattle.std.specs.Str.{bytes_eq}
use Rattle.py_syntax.specs.Statements.{param_tree}
use Rattle.py_check_members.proofs.events.annotated.Given as goal

abbrev pub invariant-loop-param : goal.invariant-loop-param
invariant-loop-param l = lookup (bytes_eq l.name) (map param_tree (drop l.param-index l.params)) ≡ lookup (bytes_eq l.name) (map param_tree l.params)
