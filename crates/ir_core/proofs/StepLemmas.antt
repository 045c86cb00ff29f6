-- Single steps, and what a register holds after a write.
use Rattle.std.proofs.Common.{◌≡◌, ◌≢◌, refl, ◌∙◌, ap, ℕ, suc, Bool, true, false, cond, List, ◌∷◌, Some, None}
use Rattle.std.specs.Prelude.{slice_get}
use Rattle.value_core.specs.Value.{BoolVal}
use Rattle.ir_core.specs.declared.code.RType.{RType}
use Rattle.ir_core.specs.declared.code.RType.TheVariants.{Bool as BoolType}
use Rattle.ir_core.specs.declared.code.Reg.{Reg}
use Rattle.ir_core.specs.declared.code.Lit.{Lit as Literal}
use Rattle.ir_core.specs.declared.code.Op.{Op}
use Rattle.ir_core.specs.declared.code.Op.TheVariants.{Move, Lit, Call, Turn}
use Rattle.ir_core.specs.declared.code.Last.{Last}
use Rattle.ir_core.specs.declared.code.Last.TheVariants.{Goto, If, IfError, Return}
use Rattle.ir_core.specs.declared.code.Func.{Func}
use Rattle.ir_core.specs.declared.code.Program.{Program}
use Rattle.ir_core.specs.Items.{Item, Do, End}
use Rattle.ir_core.specs.Rows.{type_of_reg}
use Rattle.ir_core.specs.Registers.{Held, Holds, Regs, put, is_error, literal_of, look, first_regs}
use Rattle.ir_core.specs.Effects.{World}
use Rattle.ir_core.specs.Meaning.{Frame, Waiting, Runs, Mode, is_refused, is_fit, read_all, goes, to_block, registers_of, item_at, do_op, do_last, act, step, leave}
use Rattle.std.proofs.lemmas.Bool.{eq-eqb, ne_eqb}

pub put_same : (regs : Regs) (r : ℕ) (h : Held) → put regs r h r ≡ h
put_same regs r h = ap (λ b. cond b h (regs r)) (eq-eqb r r refl)

pub put_other : (regs : Regs) (r k : ℕ) (h : Held) → k ≢ r → put regs r h k ≡ regs k
put_other regs r k h ne = ap (λ b. cond b h (regs k)) (ne_eqb k r ne)

module _ (m : Mode) (p : Program) (f : Frame) (below : List Waiting) (w : World) where
  abbrev pub Stands : Item → Type 0
  Stands i = item_at p f.fn f.block f.place ≡ Some i

  abbrev pub HasType : Reg → RType → Type 0
  HasType r t = type_of_reg (registers_of p f.fn) r ≡ Some t

  pub op_step : (o : Op) {line : ℕ} → Stands (Do o line) → step m p (Runs f below w) ≡ do_op m p o f below w
  op_step o e = ap (λ i. act m p i f below w) e

  pub end_step : (l : Last) → Stands (End l) → step m p (Runs f below w) ≡ do_last m p l f below w
  end_step l e = ap (λ i. act m p i f below w) e

  pub goto_step : (k : ℕ) → Stands (End (Goto k)) → step m p (Runs f below w) ≡ to_block f k below w
  goto_step k e = end_step (Goto k) e

  pub lit_step : (r : Reg) (l : Literal) (t : RType) (h : Held) {line : ℕ} → Stands (Do (Lit r l) line) → HasType r t → literal_of t l ≡ Some h → step m p (Runs f below w) ≡ goes f below (put f.regs r.0 h) w
  lit_step r l t h e k g = op_step (Lit r l) e ∙ rw (k, g) refl

  pub move_step : (r s : Reg) (t u : RType) {line : ℕ} → Stands (Do (Move r s) line) → HasType r t → HasType s u → is_refused m u (f.regs s.0) ≡ false → step m p (Runs f below w) ≡ goes f below (put f.regs r.0 (f.regs s.0)) w
  move_step r s t u e k g free = op_step (Move r s) e ∙ rw (g, free, k) refl

  pub if_step : (r : Reg) (a b : ℕ) (c : Bool) → Stands (End (If r a b)) → HasType r BoolType → f.regs r.0 ≡ Holds (BoolVal c) → step m p (Runs f below w) ≡ to_block f (cond c a b) below w
  if_step r a b true e k g = end_step (If r a b) e ∙ rw (k, g) refl
  if_step r a b false e k g = end_step (If r a b) e ∙ rw (k, g) refl

  pub error_step : (r : Reg) (a b line : ℕ) (t : RType) (c : Bool) → Stands (End (IfError r a b line)) → HasType r t → is_error t (f.regs r.0) ≡ c → step m p (Runs f below w) ≡ to_block f (cond c a b) below w
  error_step r a b line t true e k g = end_step (IfError r a b line) e ∙ rw (k, g) refl
  error_step r a b line t false e k g = end_step (IfError r a b line) e ∙ rw (k, g) refl

  pub turn_step : (t : ℕ) {line : ℕ} → Stands (Do Turn line) → w.pending ≡ None → w.turns ≡ suc t → step m p (Runs f below w) ≡ goes f below f.regs (record w { turns = t })
  turn_step t e calm turns = op_step Turn e ∙ rw (calm, turns) refl

  pub call_step : (r : Reg) (g : ℕ) (args : List Reg) (h : Func) (vs : List Held) {line : ℕ} → Stands (Do (Call r g args) line) → w.pending ≡ None → slice_get p.funcs g ≡ Some h → read_all (registers_of p f.fn) f.regs args ≡ Some vs → is_fit (registers_of p f.fn) r args h ≡ true → step m p (Runs f below w) ≡ Runs (record { fn = g; block = 0; place = 0; regs = first_regs h.regs vs }) (record { frame = f; into = r } ∷ below) w
  call_step r g args h vs e calm there values fit = op_step (Call r g args) e ∙ rw (calm, there, values, fit) refl

  pub return_step : (r : Reg) (g : Func) (h : Held) → Stands (End (Return r)) → slice_get p.funcs f.fn ≡ Some g → look g.regs f.regs r ≡ Some h → step m p (Runs f below w) ≡ leave m p g.ret h below w
  return_step r g h e there held = end_step (Return r) e ∙ rw (there, held) refl
