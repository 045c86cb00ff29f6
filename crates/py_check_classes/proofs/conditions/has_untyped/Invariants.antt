use Rattle.std.proofs.Common.{◌≡◌, drop}
use Rattle.std.specs.List.{list_any}
use Rattle.py_check_classes.specs.Headers.{is_untyped}
use Rattle.py_check_classes.proofs.conditions.has_untyped.Given as goal

abbrev pub invariant-loop-base : goal.invariant-loop-base
invariant-loop-base l = list_any (is_untyped l.headers) (drop l.base-index l.named) ≡ list_any (is_untyped l.headers) l.named
