-- The ways out of a statement whose places are not known yet.
use Rattle.std.specs.Prelude.{ℕ, List, [], ◌∷◌, Bool, true, false, ◌||◌, Option, Some, None}
use Rattle.ir_builder_loops_and_jumps.specs.declared.ways.Way.{Way}
use Rattle.ir_builder_loops_and_jumps.specs.declared.ways.Way.TheVariants.{Break, Continue, Return, Join}
use Rattle.ir_builder_loops_and_jumps.specs.declared.ways.Exit.{Exit}
use Rattle.ir_builder_loops_and_jumps.specs.declared.ways.ExitPlan.{ExitPlan}

abbrev pub is_same_way : Way → Way → Bool
is_same_way Break Break = true
is_same_way Continue Continue = true
is_same_way Return Return = true
is_same_way Join Join = true
is_same_way _ _ = false

-- whether some exit takes a way
abbrev pub uses : Way → List Exit → Bool
uses w [] = false
uses w (e ∷ es) = is_same_way w e.way || uses w es

-- where a way goes, as far as it is known
abbrev pub planned : ExitPlan → Way → Option ℕ
planned p Break = p.breaks
planned p Continue = p.continues
planned p Return = p.returns
planned p Join = p.joins

-- an exit stays in a list where its way has no place yet
abbrev pub stays : Option ℕ → Exit → List Exit → List Exit
stays None e rest = e ∷ rest
stays (Some t) e rest = rest

-- the exits whose way has no place yet
abbrev pub left : (Way → Option ℕ) → List Exit → List Exit
left plan [] = []
left plan (e ∷ es) = stays (plan e.way) e (left plan es)

abbrev pub number_or : Option ℕ → ℕ → ℕ
number_or None k = k
number_or (Some t) k = t

-- the places of a plan, and others for the ways that it leaves out
abbrev pub by : (Way → Option ℕ) → (Way → ℕ) → Way → ℕ
by plan to w = number_or (plan w) (to w)
