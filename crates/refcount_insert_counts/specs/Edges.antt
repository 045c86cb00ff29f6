-- The counts of an edge as operations, and when there are none.
use Rattle.std.specs.Prelude.{ℕ, Bool, true, false, List, [], ◌∷◌, ◌++◌}
use Rattle.ir_core.specs.declared.code.Op.{Op}
use Rattle.refcount_insert_rule.specs.Rule.{ups, downs}
use Rattle.refcount_insert_counts.specs.declared.counts.Counts.{Counts}

-- the counts of an edge as operations, which stand for no source line
abbrev pub edge_ops : Counts → List (Op × ℕ)
edge_ops c = ups c.ups 0 ++ downs c.downs 0

abbrev pub are_none : List ℕ → List (ℕ × Bool) → Bool
are_none [] [] = true
are_none [] (d ∷ ds) = false
are_none (r ∷ rs) ds = false

abbrev pub is_none : Counts → Bool
is_none c = are_none c.ups c.downs
