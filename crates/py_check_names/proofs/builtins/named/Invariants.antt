use Rattle.std.proofs.Common.{◌≡◌, map, drop}
use Rattle.std.specs.Map.{lookup}
use Rattle.std.specs.Str.{bytes_eq}
use Rattle.py_check_names.specs.Builtins.{with_text}
use Rattle.py_check_names.proofs.builtins.named.Given as goal

abbrev pub invariant-loop-other : goal.invariant-loop-other
invariant-loop-other l =
    lookup (bytes_eq l.name) (map with_text (drop l.other-index l.pairs)) ≡ lookup (bytes_eq l.name) (map with_text l.pairs)
