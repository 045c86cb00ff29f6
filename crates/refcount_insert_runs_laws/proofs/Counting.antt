-- Counts that can be done only bring the C text to the line behind them.
use Rattle.std.proofs.Common.{◌≡◌, sym, ◌∙◌, ap, subst, ℕ, false, List, [], ◌∷◌, ◌++◌, Option, Some, drop, append_assoc}
use Rattle.std.proofs.lemmas.List.{map-append}
use Rattle.c_core.specs.declared.code.Line.{Line}
use Rattle.c_core.specs.Machine.{MachineState}
use Rattle.c_core.specs.Machine as machines
use Rattle.c_core.specs.Step.{Goes, line_at}
use Rattle.ir_core.specs.declared.code.Op.{Op}
use Rattle.ir_core.specs.declared.code.Op.TheVariants.{Move, Lit, Prim, Call, Virtual, TraitCall, Turn, Inc, Dec, XDec}
use Rattle.ir_core.specs.declared.code.Program.{Program}
use Rattle.ir_core.specs.Registers.{is_unset}
use Rattle.ir_core.specs.Effects.{World}
use Rattle.ir_core.specs.Meaning.{Frame, Waiting}
use Rattle.ir_core.specs.Lower.{line_of, op_lines, end_lines, label_of}
use Rattle.liveness.specs.Paths.{MetAt, BorrowedAt}
use Rattle.refcount_insert_lines_laws.specs.Matching.{RegsFit, Grows, WorldFits, RunsIn}
use Rattle.refcount_insert_lines_laws.specs.Lines.{Passes, CountsDo}
use Rattle.refcount_insert_runs_laws.proofs.Lists.{drop_next}
use Rattle.refcount_insert_runs_laws.proofs.Heads.{FuncAt}
use Rattle.refcount_insert_runs_laws.proofs.Counts.{IsCount, AreCounts}
use Rattle.refcount_insert_lines_laws.proofs.Growing.{regs_grow}
use Rattle.refcount_insert_runs_laws.proofs.Growing.{Past, no_change, past_on, passed, grows_past, regs_past, world_past}
use Rattle.refcount_insert_runs_laws.proofs.Relation.{code, machine, lines_of, FrameAt, WaitsAt, StackAt, At, Leads, stays, steps_on, line_in}

-- ---- frames that wait
module _ (p q : Program) (s t : MachineState) (grows : Grows s t) where
  waits_grow : (callee : ℕ) (into : Option ℕ) (k : Waiting) (fr : machines.Frame) → WaitsAt p q s callee into k fr → WaitsAt p q t callee into k fr
  waits_grow callee into k fr a =
      record {
        ahead = a.ahead;
        ops = a.ops;
        frame = a.frame;
        regs = regs_grow s t grows a.frame.at.func.regs k.frame.regs fr.vars a.regs;
        held = a.held;
        met = a.met;
        lent = a.lent;
        is_into = a.is_into;
        target = a.target;
      }

  pub stack_grow : (callee : ℕ) (into : Option ℕ) (ks : List Waiting) (frs : List machines.Frame) → StackAt p q s callee into ks frs → StackAt p q t callee into ks frs
  stack_grow callee into [] [] a = a
  stack_grow callee into [] (fr ∷ frs) a = absurd a
  stack_grow callee into (k ∷ ks) [] a = absurd a
  stack_grow callee into (k ∷ ks) (fr ∷ frs) a =
      (waits_grow callee into k fr a.0, stack_grow k.frame.fn fr.into ks frs a.1)

module _ (p q : Program) (s t : MachineState) (past : Past s t) where
  pub stack_past : (callee : ℕ) (ks : List Waiting) → StackAt p q s callee s.top.into ks s.below → StackAt p q t callee t.top.into ks t.below
  stack_past callee ks a =
      subst (λ z. StackAt p q t callee z ks t.below) (sym past.into) (subst (StackAt p q t callee s.top.into ks) (sym past.below) (stack_grow p q s t (grows_past s t past) callee s.top.into ks s.below a))

module _ (p q : Program) (counts_do : CountsDo) where
  -- ---- counts
  pub record Counted (s : MachineState) (lines more : List Line) : Type 0 where
    pub state : MachineState
    pub leads : Leads p q (Goes s) (Goes state)
    pub past : Past s state
    pub at : drop state.top.place lines ≡ more

  module _ (f : Frame) (w : World) (at : FuncAt p q f.fn) where
    abbrev lines : List Line
    lines = lines_of p q at.new

    abbrev IsSet : ℕ → Type 0
    IsSet r = is_unset (f.regs r) ≡ false

    one_count : (s : MachineState) (a : RunsIn p f w s) (o : Op) → IsCount a.func.regs IsSet o → line_at (code p q) s.top ≡ Some (line_of q o) → (t : MachineState) × Passes s (machine p q s) t
    one_count s a (Move r x) c e = absurd c
    one_count s a (Lit r l) c e = absurd c
    one_count s a (Prim to x args) c e = absurd c
    one_count s a (Call r g args) c e = absurd c
    one_count s a (Virtual r o n args) c e = absurd c
    one_count s a (TraitCall r o t n args) c e = absurd c
    one_count s a Turn c e = absurd c
    one_count s a (Inc r) c e = (counts_do p (code p q) f w s a r.0 c.0).0 e c.1
    one_count s a (Dec r) c e = (counts_do p (code p q) f w s a r.0 c.0).1.0 e c.1
    one_count s a (XDec r) c e = (counts_do p (code p q) f w s a r.0 c).1.1 e

    pub run_counts : (counts : List (Op × ℕ)) (more : List Line) (s : MachineState) → s.top.func ≡ f.fn → RegsFit s at.func.regs f.regs s.top.vars → WorldFits p w s → AreCounts at.func.regs IsSet counts → drop s.top.place lines ≡ op_lines q counts ++ more → Counted s lines more
    run_counts [] more s same fit world c e =
        record { state = s; leads = stays (Goes s); past = no_change s; at = e }
    run_counts (o ∷ os) more s same fit world c e =
        let a : RunsIn p f w s = record { func = at.func; there = at.there; same = same; regs = fit; world = world } in
        let line : line_at (code p q) s.top ≡ Some (line_of q o.0) = line_in p q f.fn at s.top same (line_of q o.0) (op_lines q os ++ more) e in
        let one = one_count s a o.0 c.0 line in
        let t : MachineState = one.0 in
        let past : Past s t = passed s (machine p q s) t one.1 in
        let next : drop t.top.place lines ≡ op_lines q os ++ more = ap (λ i. drop i lines) one.1.place ∙ drop_next s.top.place lines (line_of q o.0) (op_lines q os ++ more) e in
        let others = run_counts os more t (past.func ∙ same) (regs_past s t past at.func.regs f.regs fit) (world_past s t past p w world) c.1 next in
        record {
          state = others.state;
          leads = steps_on s (Goes others.state) (subst (λ x. Leads p q x (Goes others.state)) (sym one.1.goes) others.leads);
          past = past_on s t others.state past others.past;
          at = others.at;
        }

  -- a frame settles behind its counts
  pub record Settled (f : Frame) (below : List Waiting) (w : World) (s : MachineState) : Type 0 where
    pub state : MachineState
    pub leads : Leads p q (Goes s) (Goes state)
    pub at : At p q f below w state

  pub settle : (f : Frame) (below : List Waiting) (w : World) (s : MachineState) (ahead ops : List (Op × ℕ)) (a : FrameAt p q f s.top ahead ops) → AreCounts a.at.func.regs (λ r. is_unset (f.regs r) ≡ false) ahead → RegsFit s a.at.func.regs f.regs s.top.vars → MetAt a.at.func f.block f.place → ((r : ℕ) → BorrowedAt a.at.func r f.block f.place → is_unset (f.regs r) ≡ false) → StackAt p q s f.fn s.top.into below s.below → WorldFits p w s → Settled f below w s
  settle f below w s ahead ops a c fit met lent stack world =
      let end : List Line = end_lines label_of (a.at.counted.number f.block) a.placed.stands.main.last ++ a.rest in
      let parts : op_lines q (ahead ++ a.new) ++ end ≡ op_lines q ahead ++ (op_lines q a.new ++ end) = ap (λ z. z ++ end) (map-append (λ (o : Op × ℕ). line_of q o.0) ahead a.new) ∙ append_assoc (op_lines q ahead) (op_lines q a.new) end in
      let r = run_counts f w a.at ahead (op_lines q a.new ++ end) s a.same fit world c (a.lines ∙ parts) in
      let t : MachineState = r.state in
      record {
        state = t;
        leads = r.leads;
        at = record {
          ops = ops;
          frame = record {
            at = a.at;
            same = r.past.func ∙ a.same;
            block = a.block;
            here = a.here;
            placed = a.placed;
            left = a.left;
            new = a.new;
            form = a.form;
            rest = a.rest;
            lines = r.at;
          };
          regs = regs_past s t r.past a.at.func.regs f.regs fit;
          met = met;
          lent = lent;
          stack = stack_past p q s t r.past f.fn below stack;
          world = world_past s t r.past p w world;
        };
      }
