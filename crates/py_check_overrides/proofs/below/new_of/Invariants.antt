use Rattle.std.proofs.Common.{◌≡◌, ℕ, List, true, map, take}
use Rattle.std.specs.List.{list_all}
use Rattle.std.specs.Str.{bytes_eq}
use Rattle.indexmap.specs.IndexMap.{get}
use Rattle.py_check_overrides.specs.Overrides.{defined}
use Rattle.py_check_overrides.specs.Lines.{known, known_or_new, said_in, is_by, IsNew, agrees_named}
use Rattle.py_check_overrides.specs.Views.{own}
use Rattle.py_check_overrides.proofs.below.new_of.Given as goal

abbrev pub invariant-loop-member : goal.invariant-loop-member
invariant-loop-member l = record {
  by : (name : List ℕ) → is_by l.place.class (get bytes_eq l.new name) ≡ true;
  fresh : IsNew (said_in l.new) (known l.place.lines.now l.place.base);
  told : (name : List ℕ) → list_all (agrees_named name (known_or_new (known l.place.lines.now l.place.base) (said_in l.new) name)) (defined (take l.member-index (map own l.own))) ≡ true;
}
