-- The step that asks whether an exception is pending.
use Rattle.std.proofs.Common.{◌≡◌, refl, ◌∙◌, ap, ℕ, List, [], Option, Some, None}
use Rattle.std.specs.Prelude.{is_some}
use Rattle.value_core.specs.Exceptions.{Thrown}
use Rattle.value_core.specs.Value.{BoolVal}
use Rattle.c_core.specs.declared.primitive.Primitive.TheVariants as prim
use Rattle.c_core.specs.declared.primitive.ErrPrim.TheVariants as err
use Rattle.ir_core.specs.declared.code.RType.TheVariants.{Bool as BoolType}
use Rattle.ir_core.specs.declared.code.Reg.{Reg}
use Rattle.ir_core.specs.declared.code.Program.{Program}
use Rattle.ir_core.specs.Items.{Do}
use Rattle.ir_core.specs.Rows.{type_of_reg}
use Rattle.ir_core.specs.Registers.{Holds, put}
use Rattle.ir_core.specs.Effects.{World}
use Rattle.ir_core.specs.Meaning.{Frame, Waiting, Runs, Fitting, next, may_stand, registers_of, item_at, step}
use Rattle.ir_core.proofs.StepLemmas.{op_step}
use Rattle.error_edges.specs.Layout.{asking}

stands : (e : Option Thrown) → may_stand e (prim.Err err.Occurred) ≡ Rattle.std.proofs.Common.true
stands None = refl
stands (Some e) = refl

pub asking_step : (q : Program) (f : Frame) (below : List Waiting) (w : World) (r : Reg) {line : ℕ} → item_at q f.fn f.block f.place ≡ Some (Do (asking r) line) → type_of_reg (registers_of q f.fn) r ≡ Some BoolType → step Fitting q (Runs f below w) ≡ Runs (next f (put f.regs r.0 (Holds (BoolVal (is_some w.pending))))) below w
asking_step q f below w r e k = op_step Fitting q f below w (asking r) e ∙ rw (stands w.pending, k) refl
