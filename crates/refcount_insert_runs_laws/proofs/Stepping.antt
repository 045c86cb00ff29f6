-- One step of a program, and the lines that do what it does.
use Rattle.std.proofs.Common.{◌≡◌, refl, sym, ap, subst, ℕ, ◌+◌, true, false, List, [], ◌∷◌, length}
use Rattle.c_core.specs.WellFormed.{WellFormed}
use Rattle.c_core.specs.Machine.{MachineState}
use Rattle.ir_core.specs.declared.code.Op.{Op}
use Rattle.ir_core.specs.declared.code.Op.TheVariants.{Move, Lit, Prim, Call, Virtual, TraitCall, Turn, Inc, Dec, XDec}
use Rattle.ir_core.specs.declared.code.Last.{Last}
use Rattle.ir_core.specs.declared.code.Last.TheVariants.{Goto, If, IfError, Return, Unreachable}
use Rattle.ir_core.specs.declared.code.Program.{Program}
use Rattle.ir_core.specs.Registers.{is_unset}
use Rattle.ir_core.specs.Effects.{World}
use Rattle.ir_core.specs.Meaning.{Frame, Waiting, Runs, Fitting, act, do_last, step}
use Rattle.ir_core.specs.Shape.{op_fits, LastFits, Shape}
use Rattle.liveness.specs.Paths.{MetAt, BorrowedAt}
use Rattle.refcount_insert_rule.specs.Counted.{owned, IsBody, IsLast, IsCountedProgram}
use Rattle.refcount_insert_lines_laws.specs.Matching.{RegsFit, WorldFits}
use Rattle.refcount_insert_lines_laws.specs.Lines.{OpsDo, CallsDo, MethodsDo, ReturnsDo, EndsDo, IfsDo, IfErrorsDo, CountsDo}
use Rattle.refcount_insert_runs_laws.proofs.Shapes.{block_fits, op_fits_at}
use Rattle.refcount_insert_runs_laws.proofs.Relation.{code, machine, FrameAt, StackAt, At, Arrives, arrives_step, end_there}
use Rattle.refcount_insert_runs_laws.proofs.Heads.{heads}
use Rattle.refcount_insert_runs_laws.proofs.Holding.{call_reads_hold, method_reads_hold}
use Rattle.refcount_insert_runs_laws.proofs.Operating.{op_arrives}
use Rattle.refcount_insert_runs_laws.proofs.Calling.{Moves, call_arrives}
use Rattle.refcount_insert_runs_laws.proofs.Ending.{first, at_end, goto_arrives, if_arrives, if_error_arrives}
use Rattle.refcount_insert_runs_laws.proofs.Leaving.{return_arrives, unreachable_arrives}

-- what single lines do
pub record LinesDo : Type 0 where
  pub ops : OpsDo
  pub calls : CallsDo
  pub methods : MethodsDo
  pub returns : ReturnsDo
  pub ends : EndsDo
  pub ifs : IfsDo
  pub if_errors : IfErrorsDo
  pub counts : CountsDo

module _ (lines_do : LinesDo) (p q : Program) (shape : Shape p) (counted : IsCountedProgram p q) (wf : WellFormed (code p q)) where
  -- ---- operations
  module _ (f : Frame) (below : List Waiting) (w : World) (s : MachineState) (x : Op) (source : ℕ) (os : List (Op × ℕ)) (a : FrameAt p q f s.top [] ((x, source) ∷ os)) where
    op_fits_here : op_fits x ≡ true
    op_fits_here =
        op_fits_at a.block.ops a.block.last f.place (x, source) os a.block.last (block_fits p shape f.fn a.at.func a.at.there f.block a.block a.here).ops a.left

  module _ (f : Frame) (below : List Waiting) (w : World) (s : MachineState) where
    by_op : (x : Op) (source : ℕ) (os : List (Op × ℕ)) (a : FrameAt p q f s.top [] ((x, source) ∷ os)) (fit : RegsFit s a.at.func.regs f.regs s.top.vars) (met : MetAt a.at.func f.block f.place) (lent : (r : ℕ) → BorrowedAt a.at.func r f.block f.place → is_unset (f.regs r) ≡ false) (stack : StackAt p q s f.fn s.top.into below s.below) (world : WorldFits p w s) → Moves p q f below w (machine p q s)
    by_op (Move r y) source os a fit met lent stack world =
        record { more = 0; arrives = op_arrives p q counted wf lines_do.ops lines_do.counts f below w s (Move r y, source) os a (op_fits_here f below w s (Move r y) source os a) fit met lent stack world refl }
    by_op (Lit r l) source os a fit met lent stack world =
        record { more = 0; arrives = op_arrives p q counted wf lines_do.ops lines_do.counts f below w s (Lit r l, source) os a (op_fits_here f below w s (Lit r l) source os a) fit met lent stack world refl }
    by_op (Prim to y args) source os a fit met lent stack world =
        record { more = 0; arrives = op_arrives p q counted wf lines_do.ops lines_do.counts f below w s (Prim to y args, source) os a (op_fits_here f below w s (Prim to y args) source os a) fit met lent stack world refl }
    by_op (Call r g args) source os a fit met lent stack world =
        call_arrives p q shape counted wf lines_do.counts f below w s (Call r g args) r refl source os a (op_fits_here f below w s (Call r g args) source os a) fit met lent stack world (call_reads_hold p f below w r g args) (λ t runs line. (g, lines_do.calls p (code p q) (heads p q counted) wf r g args f below w t runs line))
    by_op (Virtual r o n args) source os a fit met lent stack world =
        call_arrives p q shape counted wf lines_do.counts f below w s (Virtual r o n args) r refl source os a (op_fits_here f below w s (Virtual r o n args) source os a) fit met lent stack world (method_reads_hold p f below w (Virtual r o n args) r refl) (λ t runs line. lines_do.methods p (code p q) (heads p q counted) wf (Virtual r o n args) r refl f below w t runs line)
    by_op (TraitCall r o k n args) source os a fit met lent stack world =
        call_arrives p q shape counted wf lines_do.counts f below w s (TraitCall r o k n args) r refl source os a (op_fits_here f below w s (TraitCall r o k n args) source os a) fit met lent stack world (method_reads_hold p f below w (TraitCall r o k n args) r refl) (λ t runs line. lines_do.methods p (code p q) (heads p q counted) wf (TraitCall r o k n args) r refl f below w t runs line)
    by_op Turn source os a fit met lent stack world =
        record { more = 0; arrives = op_arrives p q counted wf lines_do.ops lines_do.counts f below w s (Turn, source) os a (op_fits_here f below w s Turn source os a) fit met lent stack world refl }
    by_op (Inc r) source os a fit met lent stack world =
        let fits : op_fits (Inc r) ≡ true = op_fits_here f below w s (Inc r) source os a in absurd (cc)
    by_op (Dec r) source os a fit met lent stack world =
        let fits : op_fits (Dec r) ≡ true = op_fits_here f below w s (Dec r) source os a in absurd (cc)
    by_op (XDec r) source os a fit met lent stack world =
        let fits : op_fits (XDec r) ≡ true = op_fits_here f below w s (XDec r) source os a in absurd (cc)

    -- ---- ends
    module _ (a : FrameAt p q f s.top [] []) (fit : RegsFit s a.at.func.regs f.regs s.top.vars) (met : MetAt a.at.func f.block f.place) (lent : (r : ℕ) → BorrowedAt a.at.func r f.block f.place → is_unset (f.regs r) ≡ false) (stack : StackAt p q s f.fn s.top.into below s.below) (world : WorldFits p w s) where
      abbrev state : MachineState
      state = at_end p q shape counted wf lines_do.counts f below w s a fit met lent stack world

      by_last : (l : Last) → a.block.last ≡ l → LastFits (length a.at.func.blocks) f.block a.block.ops l → IsBody a.at.func a.at.counted.tables a.at.counted.number f.block (owned a.at.func a.at.counted.tables f.block) a.block.ops l a.placed.stands.main.ops → IsLast a.at.func a.at.counted.tables a.at.counted.number a.at.counted.first a.at.counted.at_start (owned a.at.func a.at.counted.tables f.block (length a.block.ops)) l a.placed.stands.main.last → Arrives p q (machine p q state) (do_last Fitting p l f below w)
      by_last (Goto c) is fits body form =
          goto_arrives p q shape counted wf lines_do.counts f below w s a fit met lent stack world c is fits form
      by_last (If x y z) is fits body form =
          if_arrives p q shape counted wf lines_do.counts f below w s a fit met lent stack world lines_do.ifs x y z is fits form
      by_last (IfError x y z n) is fits body form =
          if_error_arrives p q shape counted wf lines_do.counts f below w s a fit met lent stack world lines_do.if_errors x y z n is fits form
      by_last (Return x) is fits body form =
          return_arrives p q shape counted wf lines_do.counts f below w s a fit met lent stack world lines_do.returns lines_do.ends x form
      by_last Unreachable is fits body form =
          unreachable_arrives p q shape counted wf lines_do.counts f below w s a fit met lent stack world fits body form

      end_arrives : Arrives p q (machine p q s) (step Fitting p (Runs f below w))
      end_arrives =
          let start = first p q shape counted wf lines_do.counts f below w s a fit met lent stack world in
          let does : step Fitting p (Runs f below w) ≡ do_last Fitting p a.block.last f below w = ap (λ z. act Fitting p z f below w) (end_there p q f s.top a) in
          subst (Arrives p q (machine p q s)) (sym does) (arrives_step p q s state (do_last Fitting p a.block.last f below w) start.leads (by_last a.block.last refl (block_fits p shape f.fn a.at.func a.at.there f.block a.block a.here).last a.placed.stands.body a.placed.stands.last))

    by_ops : (ops : List (Op × ℕ)) (a : FrameAt p q f s.top [] ops) (fit : RegsFit s a.at.func.regs f.regs s.top.vars) (met : MetAt a.at.func f.block f.place) (lent : (r : ℕ) → BorrowedAt a.at.func r f.block f.place → is_unset (f.regs r) ≡ false) (stack : StackAt p q s f.fn s.top.into below s.below) (world : WorldFits p w s) → Moves p q f below w (machine p q s)
    by_ops [] a fit met lent stack world = record { more = 0; arrives = end_arrives a fit met lent stack world }
    by_ops (o ∷ os) a fit met lent stack world = by_op o.0 o.1 os a fit met lent stack world

    pub one : At p q f below w s → Moves p q f below w (machine p q s)
    one at = by_ops at.ops at.frame at.regs at.met at.lent at.stack at.world
