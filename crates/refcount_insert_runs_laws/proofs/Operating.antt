-- An operation that stays in its function: the counts before it, its line, and the counts behind it.
use Rattle.std.proofs.Common.{◌≡◌, refl, sym, ◌∙◌, ap, subst, ℕ, suc, ◌+◌, arith, true, false, List, [], ◌∷◌, ◌++◌, Some, drop, append_assoc, ⊎_elim}
use Rattle.std.proofs.lemmas.List.{map-append}
use Rattle.c_core.specs.declared.code.Line.{Line}
use Rattle.c_core.specs.WellFormed.{WellFormed}
use Rattle.c_core.specs.Machine.{MachineState}
use Rattle.c_core.specs.Machine as machines
use Rattle.c_core.specs.Step.{Next, Goes, Ends, line_at}
use Rattle.c_core.specs.Step as steps
use Rattle.ir_core.specs.declared.code.Op.{Op}
use Rattle.ir_core.specs.declared.code.Program.{Program}
use Rattle.ir_core.specs.Registers.{Regs, is_unset}
use Rattle.ir_core.specs.Effects.{World}
use Rattle.ir_core.specs.Meaning.{Frame, Waiting, Config, Runs, Fitting, next, do_op, act, step}
use Rattle.ir_core.specs.Lower.{line_of, op_lines, end_lines, label_of}
use Rattle.ir_core.specs.Shape.{op_fits}
use Rattle.ir_core.proofs.PlaceLemmas.{left_goes_on}
use Rattle.liveness.specs.Paths.{is_among, is_target, reads_of, write_of, MetAt, BorrowedAt}
use Rattle.refcount_insert_rule.specs.Counted.{IsCountedProgram}
use Rattle.refcount_insert_lines_laws.specs.Matching.{RegsFit, WorldFits, RunsIn}
use Rattle.refcount_insert_lines_laws.specs.Lines.{HasCells, stays, GoesOn, OpDoes, op_sticks, op_goes, op_ends, OpsDo, CountsDo}
use Rattle.refcount_insert_runs_laws.proofs.Lists.{drop_next}
use Rattle.refcount_insert_runs_laws.proofs.Heads.{same_line, heads}
use Rattle.refcount_insert_runs_laws.proofs.Ways.{met_next, borrowed_before, borrowed_kept}
use Rattle.refcount_insert_runs_laws.proofs.Counts.{AreCounts, counts_by}
use Rattle.refcount_insert_runs_laws.proofs.Forms.{Before, After, Group, Form}
use Rattle.refcount_insert_runs_laws.proofs.Holding.{HoldsRead, reads_hold}
use Rattle.refcount_insert_runs_laws.proofs.Keeping.{Same, Kept, op_kept}
use Rattle.refcount_insert_runs_laws.proofs.Growing.{regs_past, world_past}
use Rattle.refcount_insert_runs_laws.proofs.Relation.{code, machine, lines_of, ends_at, FrameAt, StackAt, At, Arrives, gets_stuck, comes, ends, arrives_step, line_in, registers_here, op_here, op_there}
use Rattle.refcount_insert_runs_laws.proofs.Relation as relation
use Rattle.refcount_insert_runs_laws.proofs.Counting.{stack_grow, stack_past, Counted, run_counts, settle}

-- ---- where an operation is next
module _ (p q : Program) (counts_do : CountsDo) (f : Frame) (below : List Waiting) (w : World) (s : MachineState) (o : Op × ℕ) (os : List (Op × ℕ)) (a : FrameAt p q f s.top [] (o ∷ os)) where
  abbrev pub group : Group a.at.func f.block f.place o a.new a.form.0
  group = a.form.1

  abbrev pub end_of : List Line
  end_of = end_lines label_of (a.at.counted.number f.block) a.placed.stands.main.last ++ a.rest

  -- the lines behind that of the operation
  abbrev pub behind : List Line
  behind = op_lines q (group.after ++ a.form.0) ++ end_of

  pub parts : drop s.top.place (lines_of p q a.at.new) ≡ op_lines q group.before ++ (line_of q o.0 ∷ behind)
  parts =
      a.lines
      ∙ (ap (λ z. op_lines q z ++ end_of) group.is
      ∙ (ap (λ z. z ++ end_of) (map-append (λ (x : Op × ℕ). line_of q x.0) group.before (o ∷ (group.after ++ a.form.0)))
      ∙ append_assoc (op_lines q group.before) (op_lines q (o ∷ (group.after ++ a.form.0))) end_of))

  pub steps_to : step Fitting p (Runs f below w) ≡ do_op Fitting p o.0 f below w
  steps_to = ap (λ z. act Fitting p z f below w) (op_there p q f s.top o os a)

  module _ (lent : (r : ℕ) → BorrowedAt a.at.func r f.block f.place → is_unset (f.regs r) ≡ false) (holds : HoldsRead p f below w o.0) where
    -- what an operation reads holds a value
    pub read_set : (r : ℕ) → HasCells a.at.func.regs r → is_among (reads_of o.0) r ≡ true → is_unset (f.regs r) ≡ false
    read_set r cells read =
        holds r read (subst (λ z. HasCells z r) (sym (registers_here p q f s.top [] (o ∷ os) a)) cells)

    -- so the counts before it can be done
    pub ready : RegsFit s a.at.func.regs f.regs s.top.vars → WorldFits p w s → Counted p q counts_do s (lines_of p q a.at.new) (line_of q o.0 ∷ behind)
    ready fit world =
        run_counts p q counts_do f w a.at group.before (line_of q o.0 ∷ behind) s a.same fit world
        (counts_by a.at.func.regs (Before a.at.func f.block o.0 f.place) (λ r. is_unset (f.regs r) ≡ false) group.before (λ r cells reason. ⊎_elim (λ read. read_set r cells read) (λ l. lent r l) reason) group.before_count)
        parts

  -- where the machine stands behind the line, and the frame behind the operation
  abbrev pub frame_behind : (regs : Regs) (fr : machines.Frame) → fr.func ≡ f.fn → drop fr.place (lines_of p q a.at.new) ≡ behind → FrameAt p q (next f regs) fr group.after os
  frame_behind regs fr same lines =
      let one : suc f.place ≡ f.place + 1 = omega arith in
      record {
        at = a.at;
        same = same;
        block = a.block;
        here = a.here;
        placed = a.placed;
        left = (left_goes_on (Some a.block) f.place o os a.block.last a.left).1;
        new = a.form.0;
        form = subst (λ z. Form a.at.func f.block z os a.form.0) one a.form.2;
        rest = a.rest;
        lines = lines;
      }

  -- what is only lent behind it was lent before, and is not written
  pub lent_before : op_fits o.0 ≡ true → MetAt a.at.func f.block f.place → (r : ℕ) → BorrowedAt a.at.func r f.block (f.place + 1) → (is_target (write_of o.0) r ≡ false) × BorrowedAt a.at.func r f.block f.place
  lent_before fits met r lent =
      let one : f.place + 1 ≡ suc f.place = omega arith in
      let later : BorrowedAt a.at.func r f.block (suc f.place) = subst (BorrowedAt a.at.func r f.block) one lent in
      let here = op_here p q f s.top o os a in
      let calm = borrowed_kept a.at.func f.block f.place o.0 here r fits met later in
      (calm, borrowed_before a.at.func f.block f.place o.0 here r calm later)

  pub met_behind : MetAt a.at.func f.block f.place → MetAt a.at.func f.block (f.place + 1)
  met_behind met =
      let one : suc f.place ≡ f.place + 1 = omega arith in
      subst (MetAt a.at.func f.block) one (met_next a.at.func f.block f.place o.0 (op_here p q f s.top o os a) met)

module _ (p q : Program) (counted : IsCountedProgram p q) (wf : WellFormed (code p q)) (ops_do : OpsDo) (counts_do : CountsDo) where
  module _ (f : Frame) (below : List Waiting) (w : World) (s : MachineState) (o : Op × ℕ) (os : List (Op × ℕ)) (a : FrameAt p q f s.top [] (o ∷ os)) (fits : op_fits o.0 ≡ true) (fit : RegsFit s a.at.func.regs f.regs s.top.vars) (met : MetAt a.at.func f.block f.place) (lent : (r : ℕ) → BorrowedAt a.at.func r f.block f.place → is_unset (f.regs r) ≡ false) (stack : StackAt p q s f.fn s.top.into below s.below) (world : WorldFits p w s) (at_home : stays o.0 ≡ true) where
    abbrev done : Config
    done = do_op Fitting p o.0 f below w

    module _ (holds : HoldsRead p f below w o.0) where
      abbrev first : Counted p q counts_do s (lines_of p q a.at.new) (line_of q o.0 ∷ behind p q counts_do f below w s o os a)
      first = ready p q counts_do f below w s o os a lent holds fit world

      abbrev t : MachineState
      t = first.state

      abbrev runs : RunsIn p f w t
      runs =
          record {
            func = a.at.func;
            there = a.at.there;
            same = first.past.func ∙ a.same;
            regs = regs_past s t first.past a.at.func.regs f.regs fit;
            world = world_past s t first.past p w world;
          }

      line : line_at (code p q) t.top ≡ Some (line_of p o.0)
      line =
          line_in p q f.fn a.at t.top (first.past.func ∙ a.same) (line_of q o.0) (behind p q counts_do f below w s o os a) first.at
          ∙ ap Some (same_line p q counted o.0)

      went : (regs : Regs) (v : World) (u : MachineState) → GoesOn p a.at.func.regs t regs v u → Same f.regs (write_of o.0) regs → Arrives p q (Goes u) (Runs (next f regs) below v)
      went regs v u goes same =
          let frame = frame_behind p q counts_do f below w s o os a regs u.top (goes.func ∙ (first.past.func ∙ a.same)) (ap (λ i. drop i (lines_of p q a.at.new)) goes.place ∙ drop_next t.top.place (lines_of p q a.at.new) (line_of q o.0) (behind p q counts_do f below w s o os a) first.at) in
          let after : AreCounts a.at.func.regs (λ r. is_unset (regs r) ≡ false) (group p q counts_do f below w s o os a).after = counts_by a.at.func.regs (After a.at.func f.block o.0) (λ r. is_unset (regs r) ≡ false) (group p q counts_do f below w s o os a).after (λ r cells reason. ap is_unset (same r reason.1) ∙ read_set p q counts_do f below w s o os a lent holds r cells reason.0) (group p q counts_do f below w s o os a).after_count in
          let old : StackAt p q t f.fn t.top.into below t.below = stack_past p q s t first.past f.fn below stack in
          let grown : StackAt p q u f.fn t.top.into below t.below = stack_grow p q t u goes.grows f.fn t.top.into below t.below old in
          let new : StackAt p q u f.fn u.top.into below u.below = subst (λ z. StackAt p q u f.fn z below u.below) (sym goes.into) (subst (StackAt p q u f.fn t.top.into below) (sym goes.below) grown) in
          let r = settle p q counts_do (next f regs) below v u (group p q counts_do f below w s o os a).after os frame after goes.registers (met_behind p q counts_do f below w s o os a met) (λ r l. let h = lent_before p q counts_do f below w s o os a fits met r l in ap is_unset (same r h.0) ∙ lent r h.1) new goes.world in
          comes (next f regs) below v r.state r.leads refl r.at

      by_does : (c : Config) (n : Next) → OpDoes p a.at.func.regs f below t c n → Kept f.regs (write_of o.0) c → Arrives p q n c
      by_does c n (op_sticks m) kept = gets_stuck refl
      by_does c n (op_goes regs v u goes) kept = went regs v u goes kept
      by_does c n (op_ends e v u fits way) kept =
          ends e v u (relation.stays (Ends (steps.Ended e) u)) refl (ends_at p e v u fits way)

      does : Arrives p q (machine p q s) done
      does =
          arrives_step p q s t done first.leads (by_does done (machine p q t) (ops_do p (code p q) (heads p q counted) wf o.0 at_home f below w t runs line) (op_kept p f below o.0 at_home w))

    pub op_arrives : Arrives p q (machine p q s) (step Fitting p (Runs f below w))
    op_arrives =
        subst (Arrives p q (machine p q s)) (sym (steps_to p q counts_do f below w s o os a)) (⊎_elim (λ stuck. gets_stuck stuck) (λ holds. does holds) (reads_hold p f below w o.0 at_home))
