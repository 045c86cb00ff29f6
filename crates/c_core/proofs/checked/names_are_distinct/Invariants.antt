use Rattle.std.proofs.Common.{◌≡◌, ℕ, List, true, map, take}
use Rattle.c_core.specs.WellFormed.{names_differ}
use Rattle.c_core.proofs.NameLemmas.{knows, any_is}
use Rattle.c_core.proofs.checked.names_are_distinct.Given as goal

-- the set has the names so far, which differ
abbrev pub invariant-loop-var : goal.invariant-loop-var
invariant-loop-var l = record {
  known : (name : List ℕ) → knows l.seen.keys name ≡ any_is (λ var. var.0) (take l.var-index l.vars) name;
  differ : names_differ (map (λ var. var.0) (take l.var-index l.vars)) ≡ true;
}
