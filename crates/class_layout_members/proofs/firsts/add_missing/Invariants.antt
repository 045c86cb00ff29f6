use Rattle.std.proofs.Common.{◌≡◌, ℕ, List, None, cond, drop}
use Rattle.std.specs.Option.{option_or}
use Rattle.std.specs.Str.{bytes_eq}
use Rattle.indexmap.specs.IndexMap.{get}
use Rattle.class_layout_members.proofs.RowLemmas.{has}
use Rattle.class_layout_members.proofs.firsts.add_missing.Given as goal

abbrev pub invariant-loop-name : goal.invariant-loop-name
invariant-loop-name g l =
    (q : List ℕ) → option_or (get bytes_eq l.firsts q) (cond (has q (drop l.name-index l.names)) (get bytes_eq l.more q) None) ≡ option_or (get bytes_eq l.fn.firsts q) (cond (has q l.names) (get bytes_eq l.more q) None)
