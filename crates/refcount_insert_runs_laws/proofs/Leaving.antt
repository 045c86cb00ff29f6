-- The end of a block that leaves its function, and a place that is never reached.
use Rattle.std.proofs.Common.{◌≡◌, refl, sym, ◌∙◌, ap, subst, ℕ, zero, suc, ◌<◌, arith, false, List, [], ◌∷◌, ◌++◌, length, Option, Some, None, drop}
use Rattle.value_core.specs.Ending.{Ending, Cut}
use Rattle.value_core.specs.Exceptions.{Thrown}
use Rattle.c_core.specs.declared.code.Line.{Line}
use Rattle.c_core.specs.declared.code.Line.TheVariants as line
use Rattle.c_core.specs.WellFormed.{WellFormed}
use Rattle.c_core.specs.Machine.{MachineState}
use Rattle.c_core.specs.Machine as machines
use Rattle.c_core.specs.Step.{Next, Goes, Ends, line_at, label_at, next_line, at_place, jumped, turned, if_calm, step_at}
use Rattle.c_core.specs.Step as steps
use Rattle.ir_core.specs.declared.code.Op.{Op}
use Rattle.ir_core.specs.declared.code.Reg.{Reg}
use Rattle.ir_core.specs.declared.code.Last.TheVariants.{Return, Unreachable}
use Rattle.ir_core.specs.declared.code.Block.{Block}
use Rattle.ir_core.specs.declared.code.Program.{Program}
use Rattle.ir_core.specs.Registers.{Regs, is_unset}
use Rattle.ir_core.specs.Effects.{World}
use Rattle.ir_core.specs.Meaning.{Frame, Waiting, Config, Runs, Fitting, next, halted, do_last}
use Rattle.ir_core.specs.Lower.{op_lines, end_lines, label_of}
use Rattle.ir_core.specs.Shape.{LastFits, Shape}
use Rattle.liveness.specs.Paths.{is_target, MetAt, BorrowedAt}
use Rattle.refcount_insert_rule.specs.Counted.{owned, AreGroups, AreAll, IsCountedProgram}
use Rattle.refcount_insert_lines_laws.specs.Matching.{RegsFit, PlacesFit, PendingFits, Keeps, Grows, WorldFits, RunsIn}
use Rattle.refcount_insert_lines_laws.specs.Lines.{WaitsIn, GoesBack, ReturnDoes, return_sticks, return_goes, EndDoes, end_sticks, end_is, ReturnsDo, EndsDo, CountsDo}
use Rattle.refcount_insert_runs_laws.proofs.Lists.{drop_next}
use Rattle.refcount_insert_runs_laws.proofs.Heads.{heads}
use Rattle.refcount_insert_runs_laws.proofs.Counts.{AreCounts, counts_by}
use Rattle.refcount_insert_runs_laws.proofs.Keeping.{Same, Kept, return_kept}
use Rattle.refcount_insert_lines_laws.proofs.Growing.{keeps_grows, places_grow, pending_grows, store_keeps}
use Rattle.refcount_insert_runs_laws.proofs.Relation.{code, machine, lines_of, EndsAt, ends_at, FrameAt, WaitsAt, StackAt, Arrives, gets_stuck, comes, ends, Leads, stays, steps_on, line_in, label_in}
use Rattle.refcount_insert_runs_laws.proofs.Counting.{stack_grow, settle}
use Rattle.refcount_insert_runs_laws.proofs.Entering.{Labelled, label_found}
use Rattle.refcount_insert_runs_laws.proofs.Ending.{main, at_end, same_here, stack_here, world_here, runs, line_here, first}

-- what holds of an end holds behind some lines that only go round
on_end : (p : Program) (e : Ending) (w : World) (s u : MachineState) → u.output ≡ s.output → u.made ≡ s.made → u.globals ≡ s.globals → u.pending ≡ s.pending → Keeps s u → EndsAt p e w s → EndsAt p e w u
on_end p e w s u output made globals pending keeps a =
    let grows : Grows s u = keeps_grows s u keeps made in
    record {
      by_pending = a.by_pending;
      output = output ∙ a.output;
      store = store_keeps p.classes s u keeps made w.store a.store;
      globals = subst (PlacesFit u p.globals w.globals) (sym globals) (places_grow s u grows p.globals w.globals s.globals a.globals);
      pending = subst (PendingFits u w.pending) (sym pending) (pending_grows s u grows w.pending s.pending a.pending);
    }

none_pending : (s : MachineState) (e : Option Thrown) (c : Option ℕ) → e ≡ None → PendingFits s e c → c ≡ None
none_pending s None None is fits = refl
none_pending s None (Some c) is fits = absurd fits
none_pending s (Some e) c is fits = let f : Some e ≡ None = is in absurd (cc)

module _ (p q : Program) (shape : Shape p) (counted : IsCountedProgram p q) (wf : WellFormed (code p q)) (counts_do : CountsDo) (f : Frame) (below : List Waiting) (w : World) (s : MachineState) (a : FrameAt p q f s.top [] []) (fit : RegsFit s a.at.func.regs f.regs s.top.vars) (met : MetAt a.at.func f.block f.place) (lent : (r : ℕ) → BorrowedAt a.at.func r f.block f.place → is_unset (f.regs r) ≡ false) (stack : StackAt p q s f.fn s.top.into below s.below) (world : WorldFits p w s) where
  abbrev state : MachineState
  state = at_end p q shape counted wf counts_do f below w s a fit met lent stack world

  abbrev runs_there : RunsIn p f w state
  runs_there = runs p q shape counted wf counts_do f below w s a fit met lent stack world

  abbrev main_block : Block
  main_block = main p q shape counted wf counts_do f below w s a fit met lent stack world

  -- ---- returns
  module _ (returns_do : ReturnsDo) (ends_do : EndsDo) (x : Reg) (line : line_at (code p q) state.top ≡ Some (line.Return x.0)) where
    by_end : (c : Config) (n : Next) → EndDoes p state c n → Arrives p q n c
    by_end c n (end_sticks m) = gets_stuck refl
    by_end c n (end_is e v fits way) =
        ends e v state (stays (Ends (steps.Ended e) state)) refl (ends_at p e v state fits way)

    module _ (k : Waiting) (ks : List Waiting) (fr : machines.Frame) (frs : List machines.Frame) (wait : WaitsAt p q state f.fn state.top.into k fr) (rest : StackAt p q state k.frame.fn fr.into ks frs) where
      went : (regs : Regs) (v : World) (u : MachineState) → GoesBack p wait.frame.at.func.regs fr frs state regs v u → Same k.frame.regs (Some k.into.0) regs → Arrives p q (Goes u) (Runs (next k.frame regs) ks v)
      went regs v u back same =
          let old : FrameAt p q (next k.frame k.frame.regs) fr wait.ahead wait.ops = wait.frame in
          let frame : FrameAt p q (next k.frame regs) u.top wait.ahead wait.ops = record {
            at = old.at;
            same = back.func ∙ old.same;
            block = old.block;
            here = old.here;
            placed = old.placed;
            left = old.left;
            new = old.new;
            form = old.form;
            rest = old.rest;
            lines = ap (λ i. drop i (lines_of p q old.at.new)) back.place ∙ old.lines;
          } in
          let ahead : AreCounts old.at.func.regs (λ r. is_unset (regs r) ≡ false) wait.ahead = counts_by old.at.func.regs (λ r. (is_unset (k.frame.regs r) ≡ false) × (is_target (Some k.into.0) r ≡ false)) (λ r. is_unset (regs r) ≡ false) wait.ahead (λ r cells h. ap is_unset (same r h.1) ∙ h.0) wait.held in
          let grown : StackAt p q u k.frame.fn fr.into ks frs = stack_grow p q state u back.grows k.frame.fn fr.into ks frs rest in
          let new : StackAt p q u k.frame.fn u.top.into ks u.below = subst (λ z. StackAt p q u k.frame.fn z ks u.below) (sym back.into) (subst (StackAt p q u k.frame.fn fr.into ks) (sym back.below) grown) in
          let r = settle p q counts_do (next k.frame regs) ks v u wait.ahead wait.ops frame ahead back.registers wait.met (λ r l. let h = wait.lent r l in ap is_unset (same r h.1) ∙ h.0) new back.world in
          comes (next k.frame regs) ks v r.state r.leads refl r.at

      abbrev waits_in : WaitsIn p a.at.func.ret state.top.into k fr state
      waits_in =
          record {
            func = wait.frame.at.func;
            there = wait.frame.at.there;
            same = wait.frame.same;
            into_is = wait.is_into;
            target = wait.target a.at.func a.at.there;
            regs = wait.regs;
          }

      by_return : (c : Config) (n : Next) → ReturnDoes p wait.frame.at.func.regs k ks fr frs state c n → Kept k.frame.regs (Some k.into.0) c → Arrives p q n c
      by_return c n (return_sticks m) kept = gets_stuck refl
      by_return c n (return_goes regs v u back) kept = went regs v u back kept

      to_caller : state.below ≡ fr ∷ frs → Arrives p q (machine p q state) (do_last Fitting p (Return x) f (k ∷ ks) w)
      to_caller is =
          by_return (do_last Fitting p (Return x) f (k ∷ ks) w) (machine p q state) (returns_do p (code p q) (heads p q counted) wf x f k ks w state fr frs runs_there is waits_in line) (return_kept p k ks x f w)

    by_stack : (ks : List Waiting) (frs : List machines.Frame) → StackAt p q state f.fn state.top.into ks frs → state.below ≡ frs → Arrives p q (machine p q state) (do_last Fitting p (Return x) f ks w)
    by_stack [] [] at is =
        by_end (do_last Fitting p (Return x) f [] w) (machine p q state) (ends_do p (code p q) (heads p q counted) wf x f w state runs_there (omega (arith, at)) is line)
    by_stack [] (fr ∷ frs) at is = absurd at
    by_stack (k ∷ ks) [] at is = absurd at
    by_stack (k ∷ ks) (fr ∷ frs) at is = to_caller k ks fr frs at.0 at.1 is

    pub return_by : Arrives p q (machine p q state) (do_last Fitting p (Return x) f below w)
    return_by =
        by_stack below state.below (stack_here p q shape counted wf counts_do f below w s a fit met lent stack world) refl

  pub return_arrives : ReturnsDo → EndsDo → (x : Reg) → main_block.last ≡ Return x → Arrives p q (machine p q state) (do_last Fitting p (Return x) f below w)
  return_arrives returns_do ends_do x is =
      return_by returns_do ends_do x (line_here p q shape counted wf counts_do f below w s a fit met lent stack world (Return x) (line.Return x.0) a.rest is refl)

  -- ---- what is not reached
  -- the two lines go round until no turn is left
  module _ (some : 0 < f.block) (bare : main_block.ops ≡ []) (loops : main_block.last ≡ Unreachable) where
    abbrev lines : List Line
    lines = lines_of p q a.at.new

    abbrev label : ℕ
    label = label_of (a.at.counted.number f.block)

    abbrev found : Labelled q a.at.new.blocks (a.at.counted.number f.block) main_block
    found =
        label_found q a.at.new.blocks (a.at.counted.number f.block) main_block (a.placed.later some) a.placed.stands.there

    above : drop found.place lines ≡ line.Label ∷ (line.Turn ∷ (line.Goto label ∷ found.rest))
    above =
        found.at
        ∙ (ap (λ z. line.Label ∷ (op_lines q z ++ (end_lines label_of (a.at.counted.number f.block) main_block.last ++ found.rest))) bare
        ∙ ap (λ z. line.Label ∷ (end_lines label_of (a.at.counted.number f.block) z ++ found.rest)) loops)

    record IsRound (u : MachineState) : Type 0 where
      func : u.top.func ≡ f.fn
      calm : u.pending ≡ None
      rest : List Line
      at : drop u.top.place lines ≡ line.Turn ∷ (line.Goto label ∷ rest)
      end : EndsAt p Cut w u

    rounds : (n : ℕ) (u : MachineState) → u.turns ≡ n → IsRound u → (e : MachineState) × Leads p q (machine p q u) (Ends (steps.Ended Cut) e) × EndsAt p Cut w e
    rounds zero u turns round =
        let text : machine p q u ≡ Ends (steps.Ended Cut) u =
        ap (step_at false (code p q) u) (line_in p q f.fn a.at u.top round.func line.Turn (line.Goto label ∷ round.rest) round.at)
        ∙ (ap (λ z. if_calm false u z (turned false u u.turns)) round.calm ∙ ap (turned false u) turns) in
        (u, subst (λ z. Leads p q z (Ends (steps.Ended Cut) u)) (sym text) (stays (Ends (steps.Ended Cut) u)), round.end)
    rounds (suc n) u turns round =
        let u1 : MachineState = next_line (record u { turns = n }) in
        let u2 : MachineState = at_place found.place u1 in
        let u3 : MachineState = next_line u2 in
        let one : machine p q u ≡ Goes u1 =
        ap (step_at false (code p q) u) (line_in p q f.fn a.at u.top round.func line.Turn (line.Goto label ∷ round.rest) round.at)
        ∙ (ap (λ z. if_calm false u z (turned false u u.turns)) round.calm ∙ ap (turned false u) turns) in
        let at1 : drop u1.top.place lines ≡ line.Goto label ∷ round.rest = drop_next u.top.place lines line.Turn (line.Goto label ∷ round.rest) round.at in
        let two : machine p q u1 ≡ Goes u2 =
        ap (step_at false (code p q) u1) (line_in p q f.fn a.at u1.top round.func (line.Goto label) round.rest at1)
        ∙ ap (jumped false u1) (label_in p q f.fn a.at u1.top round.func label ∙ found.there) in
        let three : machine p q u2 ≡ Goes u3 =
        ap (step_at false (code p q) u2) (line_in p q f.fn a.at u2.top round.func line.Label (line.Turn ∷ (line.Goto label ∷ found.rest)) above) in
        let again : IsRound u3 = record {
          func = round.func;
          calm = round.calm;
          rest = found.rest;
          at = drop_next found.place lines line.Label (line.Turn ∷ (line.Goto label ∷ found.rest)) above;
          end = on_end p Cut w u u3 refl refl refl refl (record { contents = λ c v e. e }) round.end;
        } in
        let r = rounds n u3 refl again in
        let last : Next = Ends (steps.Ended Cut) r.0 in
        let from3 : Leads p q (machine p q u2) last = subst (λ z. Leads p q z last) (sym three) (steps_on u3 last r.1) in
        let from2 : Leads p q (machine p q u1) last = subst (λ z. Leads p q z last) (sym two) (steps_on u2 last from3) in
        (r.0, subst (λ z. Leads p q z last) (sym one) (steps_on u1 last from2), r.2)

    round_by : (e : Option Thrown) → w.pending ≡ e → Arrives p q (machine p q state) (do_last Fitting p Unreachable f below w)
    round_by (Some e) is = gets_stuck (ap (λ z. halted z w) is)
    round_by None is =
        let fits : WorldFits p w state = world_here p q shape counted wf counts_do f below w s a fit met lent stack world in
        let start = first p q shape counted wf counts_do f below w s a fit met lent stack world in
        let r = rounds state.turns state refl (record {
          func = same_here p q shape counted wf counts_do f below w s a fit met lent stack world;
          calm = none_pending state w.pending state.pending is fits.pending;
          rest = a.rest;
          at = start.at ∙ ap (λ z. end_lines label_of (a.at.counted.number f.block) z ++ a.rest) loops;
          end = ends_at p Cut w state fits tt;
        }) in
        ends Cut w r.0 r.1 (ap (λ z. halted z w) is) r.2

  -- a block that is not reached has no operations
  bare_groups : (ops : List (Op × ℕ)) (at : ℕ → ℕ → ℕ) (groups : List (Op × ℕ)) → ops ≡ [] → AreGroups a.at.func a.at.counted.tables a.at.counted.number at ops groups → groups ≡ []
  bare_groups [] at groups is e = e
  bare_groups (o ∷ os) at groups is e = let g : o ∷ os ≡ [] = is in absurd (cc)

  pub unreachable_arrives : LastFits (length a.at.func.blocks) f.block a.block.ops Unreachable → AreAll a.at.func a.at.counted.tables a.at.counted.number (owned a.at.func a.at.counted.tables f.block) a.block.ops Unreachable main_block.ops → main_block.last ≡ Unreachable → Arrives p q (machine p q state) (do_last Fitting p Unreachable f below w)
  unreachable_arrives fits all loops =
      let none : all.0 ≡ [] = bare_groups a.block.ops (owned a.at.func a.at.counted.tables f.block) all.0 fits.1 all.3 in
      round_by fits.0 (all.2 ∙ (ap (λ z. z ++ all.1) none ∙ all.4)) loops w.pending refl
