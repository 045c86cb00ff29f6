-- The end of a block that goes to another one: the counts before it, its line, and the detours of the edge.
use Rattle.std.proofs.Common.{◌≡◌, refl, sym, ◌∙◌, ap, subst, ℕ, ◌+◌, ◌<◌, arith, Bool, true, false, List, [], ◌∷◌, ◌++◌, length, Some}
use Rattle.std.specs.Prelude.{slice_get, nat_eq}
use Rattle.std.proofs.lemmas.Bool.{eqb-true, eqb-false}
use Rattle.c_core.specs.declared.code.Line.{Line}
use Rattle.c_core.specs.declared.code.Line.TheVariants as line
use Rattle.c_core.specs.WellFormed.{WellFormed}
use Rattle.c_core.specs.Machine.{MachineState}
use Rattle.c_core.specs.Step.{Next, line_at, label_at, jumped, step_at}
use Rattle.ir_core.specs.declared.code.Op.{Op}
use Rattle.ir_core.specs.declared.code.Reg.{Reg}
use Rattle.ir_core.specs.declared.code.Last.{Last}
use Rattle.ir_core.specs.declared.code.Last.TheVariants.{Goto, If, IfError}
use Rattle.ir_core.specs.declared.code.Block.{Block}
use Rattle.ir_core.specs.declared.code.Program.{Program}
use Rattle.ir_core.specs.Items.{End, item_in}
use Rattle.ir_core.specs.Registers.{is_unset}
use Rattle.ir_core.specs.Effects.{World}
use Rattle.ir_core.specs.Meaning.{Frame, Waiting, Config, Fitting, to_block, do_last}
use Rattle.ir_core.specs.Lower.{end_lines, label_of}
use Rattle.ir_core.specs.Shape.{LastFits, Shape}
use Rattle.c_core_ownership_laws.specs.Shares.{put}
use Rattle.liveness.specs.Paths.{targets, MetAt, BorrowedAt}
use Rattle.refcount_insert_rule.specs.Counted.{owned, IsEdgeTo, IsLast, IsCountedProgram}
use Rattle.refcount_insert_lines_laws.specs.Matching.{RegsFit, WorldFits, RunsIn}
use Rattle.refcount_insert_lines_laws.specs.Lines.{TestDoes, test_sticks, first_taken, second_taken, IfsDo, IfErrorsDo, CountsDo}
use Rattle.refcount_insert_runs_laws.proofs.Lists.{within}
use Rattle.refcount_insert_runs_laws.proofs.Numbers.{put_here, put_there}
use Rattle.refcount_insert_runs_laws.proofs.Heads.{heads}
use Rattle.refcount_insert_runs_laws.proofs.Ways.{met_over, borrowed_over}
use Rattle.refcount_insert_runs_laws.proofs.Counts.{counts_by}
use Rattle.refcount_insert_runs_laws.proofs.Forms.{edge_lent, edge_cells}
use Rattle.refcount_insert_runs_laws.proofs.Shapes.{end_place}
use Rattle.refcount_insert_runs_laws.proofs.Growing.{regs_past, world_past}
use Rattle.refcount_insert_runs_laws.proofs.Relation.{code, machine, lines_of, FrameAt, StackAt, Arrives, gets_stuck, line_in, end_here}
use Rattle.refcount_insert_runs_laws.proofs.Counting.{stack_past, Counted, run_counts}
use Rattle.refcount_insert_runs_laws.proofs.Entering.{jump, CanCount, walk}

-- ---- numbers: the tested register has what is wanted of it
put_less : (x a : ℕ) (have want : ℕ → ℕ) → a ≡ want x → (r : ℕ) → put x a have r < want r → have r < want r
put_less x a have want same r lt = by (nat_eq x r) refl
  where
    by : (b : Bool) → nat_eq x r ≡ b → have r < want r
    by true e =
        let is : x ≡ r = eqb-true x r e in
        let here : put x a have r ≡ want r = ap (put x a have) (sym is) ∙ (put_here x a have ∙ (same ∙ ap want is)) in
        absurd (omega (arith, lt, here))
    by false e = omega (arith, lt, put_there x a have r (eqb-false x r e))

put_more : (x a : ℕ) (have want : ℕ → ℕ) → a ≡ want x → (r : ℕ) → want r < put x a have r → want r < have r
put_more x a have want same r lt = by (nat_eq x r) refl
  where
    by : (b : Bool) → nat_eq x r ≡ b → want r < have r
    by true e =
        let is : x ≡ r = eqb-true x r e in
        let here : put x a have r ≡ want r = ap (put x a have) (sym is) ∙ (put_here x a have ∙ (same ∙ ap want is)) in
        absurd (omega (arith, lt, here))
    by false e = omega (arith, lt, put_there x a have r (eqb-false x r e))

module _ (p q : Program) (shape : Shape p) (counted : IsCountedProgram p q) (wf : WellFormed (code p q)) (counts_do : CountsDo) (f : Frame) (below : List Waiting) (w : World) (s : MachineState) (a : FrameAt p q f s.top [] []) (fit : RegsFit s a.at.func.regs f.regs s.top.vars) (met : MetAt a.at.func f.block f.place) (lent : (r : ℕ) → BorrowedAt a.at.func r f.block f.place → is_unset (f.regs r) ≡ false) (stack : StackAt p q s f.fn s.top.into below s.below) (world : WorldFits p w s) where
  abbrev pub main : Block
  main = a.placed.stands.main

  abbrev pub number : ℕ → ℕ
  number = a.at.counted.number

  abbrev pub end : List Line
  end = end_lines label_of (number f.block) main.last ++ a.rest

  -- behind the counts of the end
  abbrev pub first : Counted p q counts_do s (lines_of p q a.at.new) end
  first =
      run_counts p q counts_do f w a.at a.new end s a.same fit world
      (counts_by a.at.func.regs (λ r. BorrowedAt a.at.func r f.block f.place) (λ r. is_unset (f.regs r) ≡ false) a.new (λ r cells l. lent r l) a.form)
      a.lines

  abbrev pub at_end : MachineState
  at_end = first.state

  pub same_here : at_end.top.func ≡ f.fn
  same_here = first.past.func ∙ a.same

  pub stack_here : StackAt p q at_end f.fn at_end.top.into below at_end.below
  stack_here = stack_past p q s at_end first.past f.fn below stack

  pub world_here : WorldFits p w at_end
  world_here = world_past s at_end first.past p w world

  pub fit_here : RegsFit at_end a.at.func.regs f.regs at_end.top.vars
  fit_here = regs_past s at_end first.past a.at.func.regs f.regs fit

  abbrev pub runs : RunsIn p f w at_end
  runs =
      record { func = a.at.func; there = a.at.there; same = same_here; regs = fit_here; world = world_here }

  pub line_here : (last : Last) (l : Line) (ls : List Line) → main.last ≡ last → end_lines label_of (number f.block) last ++ a.rest ≡ l ∷ ls → line_at (code p q) at_end.top ≡ Some l
  line_here last l ls is e =
      line_in p q f.fn a.at at_end.top same_here l ls (first.at ∙ (ap (λ z. end_lines label_of (number f.block) z ++ a.rest) is ∙ e))

  -- ---- an edge
  module _ (l : Last) (is : a.block.last ≡ l) (i c : ℕ) (goes : slice_get (targets l) i ≡ Some c) (some : 0 < c) (lt_there : c < length a.at.func.blocks) where
    last_here : item_in a.at.func.blocks f.block f.place ≡ Some (End l)
    last_here = end_here p q f s.top a ∙ ap (λ z. Some (End z)) is

    block_there : (b : Block) × (slice_get a.at.func.blocks c ≡ Some b)
    block_there = within a.at.func.blocks c lt_there

    met_there : MetAt a.at.func c 0
    met_there = met_over a.at.func f.block f.place i c l last_here goes met

    lent_there : (r : ℕ) → BorrowedAt a.at.func r c 0 → is_unset (f.regs r) ≡ false
    lent_there r borrowed =
        lent r (borrowed_over a.at.func f.block f.place i c l last_here goes r borrowed)

    pub straight : Arrives p q (jumped false at_end (label_at (code p q) at_end.top (label_of (number c)))) (to_block f c below w)
    straight =
        jump p q shape f below w a.at c block_there.0 block_there.1 at_end same_here fit_here met_there lent_there stack_here world_here some

    -- over the detours to it, if there are any
    pub edge : (have : ℕ → ℕ) → ((r : ℕ) → have r < owned a.at.func a.at.counted.tables c 0 r → owned a.at.func a.at.counted.tables f.block (length a.block.ops) r < owned a.at.func a.at.counted.tables c 0 r) → ((r : ℕ) → owned a.at.func a.at.counted.tables c 0 r < have r → owned a.at.func a.at.counted.tables c 0 r < owned a.at.func a.at.counted.tables f.block (length a.block.ops) r) → (to : ℕ) → IsEdgeTo a.at.func a.at.counted.tables number a.at.counted.first a.at.counted.at_start have c to → Arrives p q (jumped false at_end (label_at (code p q) at_end.top (label_of to))) (to_block f c below w)
    edge have short more to e =
        let place : f.place ≡ length a.block.ops = end_place a.block.ops a.block.last f.place a.block.last a.left in
        let can : CanCount p q shape counts_do f below w a.at c block_there.0 block_there.1 met_there lent_there some (a.at.counted.at_start to) = (
          λ r lt.
              let h = edge_lent a.at.func a.at.counted.tables number f.block a.block a.here l is i c goes lt_there r (short r (omega (arith, lt, e.2 r))) in
              (h.0, lent r (subst (BorrowedAt a.at.func r f.block) (sym place) h.1)),
          λ r lt. edge_cells a.at.func a.at.counted.tables number f.block a.block a.here l is i c goes lt_there r (more r (omega (arith, lt, e.2 r))),
        ) in
        walk p q shape counts_do f below w a.at c block_there.0 block_there.1 met_there lent_there some (number c) to (omega arith) e.0 e.1 can at_end same_here fit_here stack_here world_here

  -- ---- ends
  pub goto_arrives : (c : ℕ) → a.block.last ≡ Goto c → LastFits (length a.at.func.blocks) f.block a.block.ops (Goto c) → main.last ≡ Goto (number c) → Arrives p q (machine p q at_end) (do_last Fitting p (Goto c) f below w)
  goto_arrives c is fits form =
      subst (λ z. Arrives p q z (to_block f c below w)) (sym (ap (step_at false (code p q) at_end) (line_here (Goto (number c)) (line.Goto (label_of (number c))) a.rest form refl))) (straight (Goto c) is 0 c refl fits.0 fits.1)

  by_test : (x y n m : ℕ) (c : Config) (k : Next) → TestDoes (code p q) f below w at_end x y n m c k → Arrives p q (jumped false at_end (label_at (code p q) at_end.top n)) (to_block f x below w) → Arrives p q (jumped false at_end (label_at (code p q) at_end.top m)) (to_block f y below w) → Arrives p q k c
  by_test x y n m c k (test_sticks j) one other = gets_stuck refl
  by_test x y n m c k first_taken one other = one
  by_test x y n m c k second_taken one other = other

  abbrev IsTestEdge : (ℕ → ℕ) → ℕ → ℕ → Type 0
  IsTestEdge = IsEdgeTo a.at.func a.at.counted.tables number a.at.counted.first a.at.counted.at_start

  abbrev IsEndOf : Last → Type 0
  IsEndOf l = IsLast a.at.func a.at.counted.tables number a.at.counted.first a.at.counted.at_start (owned a.at.func a.at.counted.tables f.block (length a.block.ops)) l main.last

  pub if_arrives : IfsDo → (x : Reg) (y z : ℕ) → a.block.last ≡ If x y z → LastFits (length a.at.func.blocks) f.block a.block.ops (If x y z) → IsEndOf (If x y z) → Arrives p q (machine p q at_end) (do_last Fitting p (If x y z) f below w)
  if_arrives ifs_do x y z is fits form =
      let have : ℕ → ℕ = owned a.at.func a.at.counted.tables f.block (length a.block.ops) in
      let one = edge (If x y z) is 0 y refl (omega (arith, fits.0.0)) fits.0.1 have (λ r lt. lt) (λ r lt. lt) form.0 form.3 in
      let other = edge (If x y z) is 1 z refl (omega (arith, fits.1.0)) fits.1.1 have (λ r lt. lt) (λ r lt. lt) form.1 form.4 in
      let here = line_here (If x form.0 form.1) (line.If x.0 (label_of form.0) (label_of form.1)) a.rest form.2 refl in
      by_test y z (label_of form.0) (label_of form.1) (do_last Fitting p (If x y z) f below w) (machine p q at_end) (ifs_do p (code p q) (heads p q counted) wf x y z (label_of form.0) (label_of form.1) f below w at_end runs here) one other

  pub if_error_arrives : IfErrorsDo → (x : Reg) (y z source : ℕ) → a.block.last ≡ IfError x y z source → LastFits (length a.at.func.blocks) f.block a.block.ops (IfError x y z source) → IsEndOf (IfError x y z source) → Arrives p q (machine p q at_end) (do_last Fitting p (IfError x y z source) f below w)
  if_error_arrives if_errors_do x y z source is fits form =
      let have : ℕ → ℕ = owned a.at.func a.at.counted.tables f.block (length a.block.ops) in
      let want : ℕ → ℕ = owned a.at.func a.at.counted.tables y 0 in
      let one = edge (IfError x y z source) is 0 y refl (omega (arith, fits.0.0)) fits.0.1 (put x.0 (want x.0) have) (put_less x.0 (want x.0) have want refl) (put_more x.0 (want x.0) have want refl) form.0 form.3 in
      let other = edge (IfError x y z source) is 1 z refl (omega (arith, fits.1.0)) fits.1.1 have (λ r lt. lt) (λ r lt. lt) form.1 form.4 in
      let here = line_here (IfError x form.0 form.1 source) (line.IfError x.0 (label_of form.0) (label_of form.1)) a.rest form.2 refl in
      by_test y z (label_of form.0) (label_of form.1) (do_last Fitting p (IfError x y z source) f below w) (machine p q at_end) (if_errors_do p (code p q) (heads p q counted) wf x y z source (label_of form.0) (label_of form.1) f below w at_end runs here) one other
