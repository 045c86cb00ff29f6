use Rattle.std.proofs.Common.{◌≡◌, drop}
use Rattle.std.specs.List.{list_all}
use Rattle.py_check_classes.specs.Headers.{is_earlier}
use Rattle.py_check_classes.proofs.conditions.are_earlier.Given as goal

abbrev pub invariant-loop-base : goal.invariant-loop-base
invariant-loop-base l = list_all (is_earlier l.own) (drop l.base-index l.named) ≡ list_all (is_earlier l.own) l.named
