-- Where exits may go.
use Rattle.std.specs.Prelude.{ℕ, List, [], ◌∷◌, Option, Some, None}
use Rattle.ir_builder_frames.specs.Shaped.{Higher}
use Rattle.ir_builder_loops_and_jumps.specs.declared.ways.Way.{Way}
use Rattle.ir_builder_loops_and_jumps.specs.declared.ways.Exit.{Exit}

abbrev pub GoesTo : ℕ → ℕ → Option ℕ → Type 0
GoesTo m k None = Unit {0}
GoesTo m k (Some t) = Higher k m t

-- the places that are known are higher than the blocks that are to go there, and not above m
abbrev pub PlanFits : ℕ → (Way → Option ℕ) → List Exit → Type 0
PlanFits m plan [] = Unit {0}
PlanFits m plan (e ∷ es) = GoesTo m e.block (plan e.way) × PlanFits m plan es
