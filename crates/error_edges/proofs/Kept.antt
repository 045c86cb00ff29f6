-- The program with edges means the same, and fits.
use Rattle.std.proofs.Common.{◌≡◌, refl, sym, ◌∙◌, ap, subst, ℕ, suc, ◌-◌, [], length, Option, Some, None, ◌⊎◌, inl, inr}
use Rattle.std.specs.Prelude.{slice_get}
use Rattle.value_core.specs.Ending.{Ending}
use Rattle.value_core.specs.Items.{Items}
use Rattle.ir_core.specs.declared.code.Func.{Func}
use Rattle.ir_core.specs.declared.code.Program.{Program}
use Rattle.ir_core.specs.Registers.{Regs, first_regs}
use Rattle.ir_core.specs.Effects.{World}
use Rattle.ir_core.specs.Meaning.{Config, Runs, Leaves, Ended, Stuck, Strict, Fitting, act, step, steps}
use Rattle.ir_core.specs.Runs.{first_world, begins, start, MeansSame, Calm, Fit}
use Rattle.ir_core.proofs.Simulation.{Simulates, means_same, never_stuck}
use Rattle.error_edges.proofs.Laid.{FunctionLaid}
use Rattle.error_edges.proofs.RegisterLemmas.{RegsAgree, first_as}
use Rattle.error_edges.proofs.Simulation.{ProgramLaid, FunctionStands, Matches, lost, found, jumped, step_matches}

module _ (p q : Program) (all : ProgramLaid p q) where
  moves : (c d : Config) → Matches p q all c d → (j : ℕ) × (n : ℕ) × Matches p q all (steps Strict p (suc j) c) (steps Fitting q (suc n) d)
  moves c d m = let after = step_matches p q all c d m in (0, after.0, after.1)

  from_end : (c : Config) (e : Ending) (w : World) → Matches p q all c (Ended e w) → (c ≡ Ended e w) ⊎ (step Strict p c ≡ Stuck)
  from_end (Runs f below v) e w (lost is) = inr (ap (λ o. act Strict p o f below v) is)
  from_end (Runs f below v) e w (found ops last g waiting is st wait) = absurd (cc)
  from_end (Leaves fn below v) e w m = let is = m.is in absurd (cc)
  from_end (Ended x v) e w m = inl (sym m)
  from_end Stuck e w m = inr refl

  from_stuck : (c : Config) → Matches p q all c Stuck → (c ≡ Stuck) ⊎ (step Strict p c ≡ Stuck)
  from_stuck (Runs f below v) (lost is) = inr (ap (λ o. act Strict p o f below v) is)
  from_stuck (Runs f below v) (found ops last g waiting is st wait) = absurd (cc)
  from_stuck (Leaves fn below v) m = let is = m.is in absurd (cc)
  from_stuck (Ended x v) m = absurd (cc)
  from_stuck Stuck m = inl refl

  simulates : Simulates Strict Fitting p q (Matches p q all)
  simulates = record { moves = moves; ends = λ e w d m. (0, m); from_end = from_end; from_stuck = from_stuck }

  -- the first steps of the module's own function
  starts : (turns : ℕ) (items : Items) → Matches p q all (start p turns items) (start q turns items)
  starts turns items = at_module (slice_get p.funcs (length p.funcs - 1)) refl
    where
      at_module : (o : Option Func) → slice_get p.funcs (length p.funcs - 1) ≡ o → Matches p q all (begins (length p.funcs - 1) (first_world p turns items) o) (start q turns items)
      at_module None e = tt
      at_module (Some f) e =
          let k : ℕ = length p.funcs - 1 in
          let w : World = first_world p turns items in
          let there = all.funcs k f e in
          let g : Func = there.0 in
          let laid : FunctionLaid f g = there.2 in
          let x : Regs = first_regs f.regs [] in
          let y : Regs = first_regs g.regs [] in
          let same : RegsAgree f.regs x y = subst (λ ds. RegsAgree f.regs x (first_regs ds [])) (sym laid.regs) (first_as f.regs laid.more []) in
          let fs : FunctionStands p q all k k = record { same = refl; old = f; new = g; at_old = e; at_new = there.1; laid = laid } in
          let begin : start q turns items ≡ Runs (record { fn = k; block = 0; place = 0; regs = y }) [] w =
          ap (λ n. begins (n - 1) (first_world q turns items) (slice_get q.funcs (n - 1))) all.count
          ∙ (ap (λ gs. begins k (first_world (record q { globals = gs }) turns items) (slice_get q.funcs k)) all.globals ∙ ap (begins k w) there.1) in
          let from : Config = Runs (record { fn = k; block = 0; place = 0; regs = x }) [] w in
          let here : Matches p q all from (Runs (record { fn = k; block = laid.start 0; place = 0; regs = y }) [] w) =
          jumped p q all (record { fn = k; block = 0; place = 0; regs = x }) (record { fn = k; block = 0; place = 0; regs = y }) fs same [] [] w tt 0 in
          let entered : Matches p q all from (Runs (record { fn = k; block = 0; place = 0; regs = y }) [] w) =
          subst (λ b. Matches p q all from (Runs (record { fn = k; block = b; place = 0; regs = y }) [] w)) laid.entry here in
          subst (Matches p q all from) (sym begin) entered

  pub means : Calm p → MeansSame p q
  means calm = means_same Strict Fitting p q (Matches p q all) simulates starts calm

  pub fits : Calm p → Fit q
  fits calm = never_stuck Strict Fitting p q (Matches p q all) simulates starts calm
