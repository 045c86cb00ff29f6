use Rattle.std.proofs.Common.{◌≡◌, drop}
use Rattle.std.specs.Prelude.{map}
use Rattle.c_core.specs.WellFormed.{names_differ}
use Rattle.c_core.proofs.names.names_differ.Given as goal

abbrev pub invariant-loop-i : goal.invariant-loop-i
invariant-loop-i g l = names_differ (map g.T.Named.name_of (drop l.i l.items)) ≡ names_differ (map g.T.Named.name_of l.items)
