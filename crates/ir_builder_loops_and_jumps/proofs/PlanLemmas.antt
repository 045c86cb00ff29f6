-- Exits go where they may.
use Rattle.ir_builder_loops_and_jumps.proofs.Common.{◌≡◌, ℕ, zero, suc, ◌<◌, ◌≤◌, true, List, [], ◌∷◌, ◌++◌, length, Option, Some, None, refl, sym, ap, ◌∙◌, subst, arith, get_or, Op, Turn, Building, Higher, Way, Break, Continue, Return, Join, Exit, planned, OpenIn}
use Rattle.ir_core.specs.Shape.{ends_in_turn}
use Rattle.ir_builder_loops_and_jumps.specs.Plans.{GoesTo, PlanFits}

plan_at : (m : ℕ) (plan : Way → Option ℕ) (es : List Exit) (i : ℕ) (e y : Exit) → i < length es → e ≡ get_or es i y → PlanFits m plan es → GoesTo m e.block (plan e.way)
plan_at m plan [] i e y lt is p = absurd (omega arith)
plan_at m plan (x ∷ es) zero e y lt is p = let P : Exit → Type 0 = λ z. GoesTo m z.block (plan z.way) in subst P (sym is) p.0
plan_at m plan (x ∷ es) (suc i) e y lt is p = plan_at m plan es i e y (omega arith) is p.1

pub planned_at : (m : ℕ) (plan : Way → Option ℕ) (es : List Exit) (i t : ℕ) (e y : Exit) → i < length es → e ≡ get_or es i y → plan e.way ≡ Some t → PlanFits m plan es → Higher e.block m t
planned_at m plan es i t e y lt is go p = let P : Option ℕ → Type 0 = λ z. GoesTo m e.block z in subst P go (plan_at m plan es i e y lt is p)

-- all places are above a number, and all blocks below it
abbrev pub PlanAbove : ℕ → ℕ → (Way → Option ℕ) → Type 0
PlanAbove low m plan = (w : Way) (t : ℕ) → plan w ≡ Some t → (low ≤ t) × (t ≤ m)

goes_above : (low m k : ℕ) (o : Option ℕ) → k < low → ((t : ℕ) → o ≡ Some t → (low ≤ t) × (t ≤ m)) → GoesTo m k o
goes_above low m k None lt h = tt
goes_above low m k (Some t) lt h = let q = h t refl in (let a = q.0 in omega arith, q.1)

pub plan_fits : (b : Building) (from low m : ℕ) (plan : Way → Option ℕ) (es : List Exit) → OpenIn b from low es → PlanAbove low m plan → PlanFits m plan es
plan_fits b from low m plan [] o h = tt
plan_fits b from low m plan (e ∷ es) o h = (goes_above low m e.block (plan e.way) o.2 (h e.way), plan_fits b (suc e.block) low m plan es o.3 h)

-- the places of a loop, and of an `if`
pub loop_above : (low m a b : ℕ) → (low ≤ a) × (a ≤ m) → (low ≤ b) × (b ≤ m) → PlanAbove low m (planned record { breaks = Some a; continues = Some b; returns = None; joins = None })
loop_above low m a b p q Break t e = let is : a ≡ t = (let f : Some a ≡ Some t = e in cc) in (let x = p in omega arith, let x = p in omega arith)
loop_above low m a b p q Continue t e = let is : b ≡ t = (let f : Some b ≡ Some t = e in cc) in (let x = q in omega arith, let x = q in omega arith)
loop_above low m a b p q Return t e = let f : None ≡ Some t = e in absurd (cc)
loop_above low m a b p q Join t e = let f : None ≡ Some t = e in absurd (cc)

pub join_above : (low m a : ℕ) → (low ≤ a) × (a ≤ m) → PlanAbove low m (planned record { breaks = None; continues = None; returns = None; joins = Some a })
join_above low m a p Join t e = let is : a ≡ t = (let f : Some a ≡ Some t = e in cc) in (let x = p in omega arith, let x = p in omega arith)
join_above low m a p Break t e = let f : None ≡ Some t = e in absurd (cc)
join_above low m a p Continue t e = let f : None ≡ Some t = e in absurd (cc)
join_above low m a p Return t e = let f : None ≡ Some t = e in absurd (cc)

-- ---- a turn at the end

turn_last : (os : List (Op × ℕ)) (line : ℕ) → ends_in_turn (os ++ (Turn, line) ∷ []) ≡ true
turn_last [] line = refl
turn_last (o ∷ []) line = refl
turn_last (o ∷ p ∷ os) line = turn_last (p ∷ os) line

pub turn_ends : (b c : Building) (line : ℕ) → c.ops ≡ b.ops ++ (Turn, line) ∷ [] → ends_in_turn c.ops ≡ true
turn_ends b c line e = ap ends_in_turn e ∙ turn_last b.ops line
