use Rattle.std.proofs.Common.{◌≡◌, ℕ, List, true, map, drop}
use Rattle.std.specs.Map.{lookup}
use Rattle.std.specs.Option.{option_or}
use Rattle.std.specs.Str.{bytes_eq}
use Rattle.indexmap.specs.IndexMap.{get}
use Rattle.class_layout_members.specs.Views.{member}
use Rattle.py_check_overrides.specs.Lines.{said_in, is_by}
use Rattle.py_check_overrides.proofs.lines.firsts_by.Given as goal

abbrev pub invariant-loop-member : goal.invariant-loop-member
invariant-loop-member l = record {
  first : (name : List ℕ) → option_or (said_in l.said name) (lookup (bytes_eq name) (map member (drop l.member-index l.members))) ≡ lookup (bytes_eq name) (map member l.members);
  by : (name : List ℕ) → is_by l.class (get bytes_eq l.said name) ≡ true;
}
