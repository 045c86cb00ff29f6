use Rattle.std.proofs.Common.{◌≡◌, ◌++◌, map, drop}
use Rattle.std.specs.Option.{option_map}
use Rattle.py_typed.specs.Classes.{signature}
use Rattle.py_check_overrides.specs.Own.{own_row}
use Rattle.py_check_overrides.specs.Views.{owns}
use Rattle.py_check_overrides.proofs.own.own_members.Given as goal

abbrev pub invariant-loop-class : goal.invariant-loop-class
invariant-loop-class l = owns l.all ++ map (own_row (map (option_map signature) l.sigs)) (drop l.class-index l.classes) ≡ map (own_row (map (option_map signature) l.sigs)) l.classes
