-- What the code of a function's body does.
use Rattle.std.specs.Prelude.{◌≡◌, ℕ, ◌<◌, ◌≤◌, false, List, [], length, Option, Some, None, slice_get}
use Rattle.value_core.specs.Value.{Value}
use Rattle.source_meaning.specs.State.{State}
use Rattle.source_meaning.specs.WaysOut.{Flow, Goes, Returns}
use Rattle.py_typed.specs.Sorts.{Sort}
use Rattle.ir_core.specs.declared.code.Func.{Func}
use Rattle.ir_core.specs.declared.code.Last.TheVariants.{Goto, Unreachable}
use Rattle.ir_core.specs.declared.code.Lit.{Lit}
use Rattle.ir_core.specs.declared.code.Program.{Program}
use Rattle.ir_core.specs.declared.code.RType.{RType}
use Rattle.ir_builder_frames.specs.Building.{Building, held, handled, Extends}
use Rattle.ir_core.specs.Building.{is_open_at}
use Rattle.ir_core.specs.Items.{Item, End}
use Rattle.ir_core.specs.Meaning.{Config, Waiting, item_at, handler_at}
use Rattle.ir_core.specs.Registers.{Holds, Regs, literal_of}
use Rattle.ir_builder_frames.specs.declared.frame.Frame.{Frame}
use Rattle.ir_builder_frames.specs.declared.frame.Vars.{Vars}
use Rattle.ir_builder_frames.specs.Coming.{world, running, returning, Escapes, Ends}
use Rattle.ir_builder_frames.specs.Computing.{Meaning}
use Rattle.ir_builder_frames.specs.Matching.{Matches, CallsWork}
use Rattle.ir_builder_frames.specs.Placing.{Has}
use Rattle.ir_builder_frames.specs.Settings.{Setting}
use Rattle.ir_builder_loops_and_jumps.specs.Runs.{GivesOne}

-- ---- ends that are still open

-- those of the blocks from one number up to another were written as jumps to a block
pub record Filled (b c : Building) (from upto to : ℕ) : Type 0 where
  pub has : (p : Program) (fn : ℕ) → Has p fn c → Has p fn b
  pub jumps : (p : Program) (fn k i : ℕ) → Has p fn c → from ≤ k → k < upto → held b k i ≡ Some (End Unreachable) → item_at p fn k i ≡ Some (End (Goto to))
  pub extends : (a : Building) → Extends a b → length a.blocks ≤ from → Extends a c
  pub later : (k i : ℕ) (x : Item) → upto ≤ k → held b k i ≡ Some x → held c k i ≡ Some x
  pub none : (k : ℕ) → from ≤ k → k < upto → is_open_at c.blocks k ≡ false
  pub same : (k : ℕ) → upto ≤ k → is_open_at c.blocks k ≡ is_open_at b.blocks k
  pub handlers : (k : ℕ) → handled c k ≡ handled b k
  pub same_regs : c.regs ≡ b.regs
  pub blocks : length c.blocks ≡ length b.blocks
  pub ops : c.ops ≡ b.ops

-- ---- a body

abbrev pub body_frame : Vars → Frame
body_frame vars = record { locals = vars; ret = None }

-- how statements leave their function: at their end with a value, or by a return
abbrev pub LeavesWith : Program → Option Sort → Value → List Waiting → Flow → State → Config → Type 0
LeavesWith p result end below Goes s d = d ≡ returning p end below (world None s)
LeavesWith p result end below (Returns v) s d = GivesOne result × (d ≡ returning p v below (world None s))
LeavesWith p result end below f s d = ⊥

-- from a place on the code does what statements mean, and leaves the function
abbrev pub BodyWorks : Program → Setting → Option Sort → Value → Meaning Flow → ℕ → ℕ → ℕ → Type 0
BodyWorks p x result end m fn k i =
    (n : ℕ) → CallsWork p x.source n → (regs : Regs) (below : List Waiting) (s : State) → Matches x regs s → s.turns ≤ n → Ends p s.turns (running fn k i regs below (world None s)) (m n s) (LeavesWith p result end below) (Escapes fn below)

-- the code from the first builder's place on is that of a body, and no block is left to be filled. At its end it gives a literal
pub record Bodied (x : Setting) (result : Option Sort) (t : RType) (last : Lit) (m : Meaning Flow) (old new : Building) : Type 0 where
  pub extends : Extends old new
  pub ops : new.ops ≡ []
  pub more : length old.blocks < length new.blocks
  pub full : (k : ℕ) → length old.blocks ≤ k → is_open_at new.blocks k ≡ false
  pub works : (p : Program) (fn : ℕ) (h : Func) (end : Value) → Has p fn new → ((k : ℕ) → handler_at p fn k ≡ handled new k) → slice_get p.funcs fn ≡ Some h → literal_of t last ≡ Some (Holds end) → BodyWorks p x result end m fn (length old.blocks) (length old.ops)
