use Rattle.std.proofs.Common.{◌≡◌, map, drop}
use Rattle.std.specs.Map.{lookup}
use Rattle.std.specs.Str.{bytes_eq}
use Rattle.py_check_targets.specs.Views.{part_seen}
use Rattle.py_check_targets.proofs.several.first_part.Given as goal

abbrev pub invariant-loop-part : goal.invariant-loop-part
invariant-loop-part l = lookup (bytes_eq l.x) (map part_seen (drop l.part-index l.seen)) ≡ lookup (bytes_eq l.x) (map part_seen l.seen)
