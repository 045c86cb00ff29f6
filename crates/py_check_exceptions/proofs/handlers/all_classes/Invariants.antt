use Rattle.std.proofs.Common.{◌≡◌, ◌++◌, drop}
use Rattle.std.specs.Option.{option_map}
use Rattle.py_check_exceptions.specs.Handlers.{all_classes}
use Rattle.py_check_exceptions.proofs.handlers.all_classes.Given as goal

abbrev pub invariant-loop-class : goal.invariant-loop-class
invariant-loop-class l = option_map (λ more. l.all ++ more) (all_classes (drop l.class-index l.found)) ≡ all_classes l.found
