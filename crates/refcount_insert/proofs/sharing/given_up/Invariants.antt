use Rattle.std.proofs.Common.{◌≡◌, take}
use Rattle.refcount_insert_rule.specs.Rule.{given_up}
use Rattle.refcount_insert.proofs.sharing.given_up.Given as goal

abbrev pub invariant-loop-r : goal.invariant-loop-r
invariant-loop-r l = l.all.items ≡ given_up (take l.r-index l.downs)
