use Rattle.std.proofs.Common.{◌≡◌, true, map, take}
use Rattle.c_core.specs.Index.{IsIndex}
use Rattle.c_core.specs.WellFormed.{names_differ}
use Rattle.c_core.proofs.checked.number_names.Given as goal

-- the map has the numbers of the names so far, which differ
abbrev pub invariant-loop-i : goal.invariant-loop-i
invariant-loop-i g l = record {
  known : IsIndex g.T.Named.name_of (take l.i l.items) l.numbers;
  differ : names_differ (map g.T.Named.name_of (take l.i l.items)) ≡ true;
}
