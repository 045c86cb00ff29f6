-- A call of a function or a method: the counts before it, and into the function. The frame that waits has the counts behind the call before it.
use Rattle.std.proofs.Common.{◌≡◌, refl, sym, ◌∙◌, ap, subst, ℕ, suc, ◌+◌, true, false, List, [], ◌∷◌, Option, Some, None, ◌⊎◌, ⊎_elim, inl, inr}
use Rattle.std.specs.Prelude.{slice_get}
use Rattle.std.proofs.lemmas.Option.{same_Some}
use Rattle.c_core.specs.declared.code.Line.{Line}
use Rattle.c_core.specs.WellFormed.{WellFormed}
use Rattle.c_core.specs.Machine.{MachineState}
use Rattle.c_core.specs.Step.{Next, Goes, line_at}
use Rattle.ir_core.specs.declared.code.Reg.{Reg}
use Rattle.ir_core.specs.declared.code.Op.{Op}
use Rattle.ir_core.specs.declared.code.Block.{Block}
use Rattle.ir_core.specs.declared.code.Func.{Func}
use Rattle.ir_core.specs.declared.code.Program.{Program}
use Rattle.ir_core.specs.Items.{item_of, blocks_of}
use Rattle.ir_core.specs.Registers.{Regs, is_unset}
use Rattle.ir_core.specs.Rows.{type_of_reg}
use Rattle.ir_core.specs.Effects.{World}
use Rattle.ir_core.specs.Meaning.{Frame, Waiting, Config, Runs, Stuck, Fitting, act, do_op, step, steps}
use Rattle.ir_core.specs.Items.{item_in}
use Rattle.ir_core.specs.Lower.{line_of}
use Rattle.ir_core.specs.Shape.{op_fits, Shape}
use Rattle.liveness.specs.Paths.{is_target, write_of, MetAt, BorrowedAt}
use Rattle.refcount_insert_rule.specs.Counted.{IsCountedProgram}
use Rattle.refcount_insert_lines_laws.specs.Matching.{RegsFit, WorldFits, RunsIn}
use Rattle.refcount_insert_lines_laws.specs.Lines.{Enters, CallDoes, call_sticks, call_enters, CountsDo}
use Rattle.refcount_insert_runs_laws.proofs.Lists.{drop_next}
use Rattle.refcount_insert_runs_laws.proofs.Heads.{FuncAt, at_number, same_line}
use Rattle.refcount_insert_runs_laws.proofs.Counts.{counts_by}
use Rattle.refcount_insert_runs_laws.proofs.Forms.{After}
use Rattle.refcount_insert_runs_laws.proofs.Holding.{HoldsRead}
use Rattle.refcount_insert_lines_laws.proofs.Growing.{regs_grow}
use Rattle.refcount_insert_runs_laws.proofs.Growing.{regs_past, world_past}
use Rattle.refcount_insert_runs_laws.proofs.Relation.{code, machine, lines_of, FrameAt, WaitsAt, StackAt, At, Arrives, gets_stuck, comes, arrives_step, line_in}
use Rattle.refcount_insert_runs_laws.proofs.Relation as relation
use Rattle.refcount_insert_runs_laws.proofs.Counting.{stack_grow, stack_past, Counted}
use Rattle.refcount_insert_runs_laws.proofs.Operating.{group, behind, steps_to, read_set, ready, frame_behind, lent_before, met_behind}
use Rattle.refcount_insert_runs_laws.proofs.Entering.{begin_at}

-- one step of the program, or two, and where they come to
pub record Moves (p q : Program) (f : Frame) (below : List Waiting) (w : World) (n : Next) : Type 0 where
  pub more : ℕ
  pub arrives : Arrives p q n (steps Fitting p (suc more) (Runs f below w))

module _ (p q : Program) (shape : Shape p) (counted : IsCountedProgram p q) (wf : WellFormed (code p q)) (counts_do : CountsDo) where
  -- a function that has no block is stuck at once
  no_block : (n : ℕ) (h : Func) (regs : Regs) (ks : List Waiting) (w : World) → slice_get p.funcs n ≡ Some h → slice_get h.blocks 0 ≡ None → step Fitting p (Runs (record { fn = n; block = 0; place = 0; regs = regs }) ks w) ≡ Stuck
  no_block n h regs ks w there none =
      ap (λ z. act Fitting p (item_in (blocks_of z) 0 0) (record { fn = n; block = 0; place = 0; regs = regs }) ks w) there
      ∙ ap (λ z. act Fitting p (item_of z 0) (record { fn = n; block = 0; place = 0; regs = regs }) ks w) none

  module _ (f : Frame) (below : List Waiting) (w : World) (s : MachineState) (x : Op) (into : Reg) (writes : write_of x ≡ Some into.0) (source : ℕ) (os : List (Op × ℕ)) (a : FrameAt p q f s.top [] ((x, source) ∷ os)) (fits : op_fits x ≡ true) (fit : RegsFit s a.at.func.regs f.regs s.top.vars) (met : MetAt a.at.func f.block f.place) (lent : (r : ℕ) → BorrowedAt a.at.func r f.block f.place → is_unset (f.regs r) ≡ false) (stack : StackAt p q s f.fn s.top.into below s.below) (world : WorldFits p w s) where
    abbrev call : Op × ℕ
    call = (x, source)

    abbrev called : Config
    called = do_op Fitting p x f below w

    -- the C text calls the function that the program calls
    abbrev pub Alike : Type 0
    Alike =
        (t : MachineState) (r : RunsIn p f w t) → line_at (code p q) t.top ≡ Some (line_of p x) → (n : ℕ) × CallDoes p r.func.regs n into f below t called (machine p q t)

    -- the program's second step, too
    abbrev OneMore : Config → Next → Type 0
    OneMore c m = Arrives p q m c ⊎ (step Fitting p c ≡ Stuck)

    module _ (holds : HoldsRead p f below w x) where
      abbrev first : Counted p q counts_do s (lines_of p q a.at.new) (line_of q x ∷ behind p q counts_do f below w s call os a)
      first = ready p q counts_do f below w s call os a lent holds fit world

      abbrev t : MachineState
      t = first.state

      abbrev runs : RunsIn p f w t
      runs =
          record {
            func = a.at.func;
            there = a.at.there;
            same = first.past.func ∙ a.same;
            regs = regs_past s t first.past a.at.func.regs f.regs fit;
            world = world_past s t first.past p w world;
          }

      line : line_at (code p q) t.top ≡ Some (line_of p x)
      line =
          line_in p q f.fn a.at t.top (first.past.func ∙ a.same) (line_of q x) (behind p q counts_do f below w s call os a) first.at
          ∙ ap Some (same_line p q counted x)

      went : (n : ℕ) (h : Func) (regs : Regs) (v : World) (u : MachineState) → slice_get p.funcs n ≡ Some h → type_of_reg a.at.func.regs into ≡ Some h.ret → Enters p h n into t regs v u → (call : Option Block) → slice_get h.blocks 0 ≡ call → OneMore (Runs (record { fn = n; block = 0; place = 0; regs = regs }) (record { frame = f; into = into } ∷ below) v) (Goes u)
      went n h regs v u there type enters None none =
          inr (no_block n h regs (record { frame = f; into = into } ∷ below) v there none)
      went n h regs v u there type enters (Some block) here =
          let found = at_number p q counted n h there in
          let callee : FuncAt p q n = record { func = h; new = found.0; there = there; new_there = found.1; counted = found.2 } in
          let waits : Waiting = record { frame = f; into = into } in
          let fr = record t.top { place = t.top.place + 1 } in
          let lines : List Line = lines_of p q a.at.new in
          let wait : WaitsAt p q u n u.top.into waits fr = record {
            ahead = (group p q counts_do f below w s call os a).after;
            ops = os;
            frame = frame_behind p q counts_do f below w s call os a f.regs fr (first.past.func ∙ a.same) (drop_next t.top.place lines (line_of q x) (behind p q counts_do f below w s call os a) first.at);
            regs = regs_grow t u enters.grows a.at.func.regs f.regs t.top.vars runs.regs;
            held = counts_by a.at.func.regs (After a.at.func f.block x) (λ r. (is_unset (f.regs r) ≡ false) × (is_target (Some into.0) r ≡ false)) (group p q counts_do f below w s call os a).after (λ r cells reason. (read_set p q counts_do f below w s call os a lent holds r cells reason.0, ap (λ z. is_target z r) (sym writes) ∙ reason.1)) (group p q counts_do f below w s call os a).after_count;
            met = met_behind p q counts_do f below w s call os a met;
            lent = λ r l. let before = lent_before p q counts_do f below w s call os a fits met r l in (lent r before.1, ap (λ z. is_target z r) (sym writes) ∙ before.0);
            is_into = enters.into_is;
            target = λ g e. let same : h ≡ g = same_Some h g (sym there ∙ e) in type ∙ ap (λ (z : Func). Some z.ret) same;
          } in
          let old : StackAt p q t f.fn t.top.into below t.below = stack_past p q s t first.past f.fn below stack in
          let grown : StackAt p q u f.fn t.top.into below t.below = stack_grow p q t u enters.grows f.fn t.top.into below t.below old in
          let both : StackAt p q u n u.top.into (waits ∷ below) (fr ∷ t.below) = (wait, grown) in
          let new : StackAt p q u n u.top.into (waits ∷ below) u.below = subst (StackAt p q u n u.top.into (waits ∷ below)) (sym enters.below) both in
          let frame : Frame = record { fn = n; block = 0; place = 0; regs = regs } in
          inl (comes frame (waits ∷ below) v u (relation.stays (Goes u)) refl (begin_at p q shape frame (waits ∷ below) v callee block here u enters.func enters.place enters.registers enters.given new enters.world))

      by_does : (n : ℕ) (c : Config) (m : Next) → CallDoes p a.at.func.regs n into f below t c m → OneMore c m
      by_does n c m (call_sticks k) = inl (gets_stuck refl)
      by_does n c m (call_enters h regs v u there type enters) =
          went n h regs v u there type enters (slice_get h.blocks 0) refl

      does : Alike → OneMore called (machine p q s)
      does alike =
          let one = alike t runs line in
          ⊎_elim (λ arrives. inl (arrives_step p q s t called first.leads arrives)) (λ stuck. inr stuck) (by_does one.0 called (machine p q t) one.1)

    pub call_arrives : (called ≡ Stuck) ⊎ HoldsRead p f below w x → Alike → Moves p q f below w (machine p q s)
    call_arrives reads alike =
        ⊎_elim (λ stuck. at_once (gets_stuck stuck)) (λ holds. ⊎_elim (λ arrives. at_once arrives) (λ stuck. record { more = 1; arrives = gets_stuck (ap (step Fitting p) (steps_to p q counts_do f below w s call os a) ∙ stuck) }) (does holds alike)) reads
      where
        at_once : Arrives p q (machine p q s) called → Moves p q f below w (machine p q s)
        at_once arrives =
            record { more = 0; arrives = subst (Arrives p q (machine p q s)) (sym (steps_to p q counts_do f below w s call os a)) arrives }
