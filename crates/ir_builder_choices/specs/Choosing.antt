-- What a choice does (Python Language Reference, "Boolean operations" and "Conditional expressions"): the truth of a
-- value picks one of two arms; that one is evaluated, with the value at hand, and the other one is not.
use Rattle.std.specs.Prelude.{ℕ, ◌≤◌, List, length, Option, None, if◌then◌else◌}
use Rattle.value_core.specs.Value.{Value}
use Rattle.py_typed.specs.Sorts.{Sort}
use Rattle.source_meaning.specs.State.{State, Does, ◌>>=◌}
use Rattle.source_meaning.specs.Operations.{truth_of}
use Rattle.ir_core.specs.declared.code.Program.{Program}
use Rattle.ir_core.specs.Registers.{Regs}
use Rattle.ir_builder_frames.specs.Building.{Building, Extends}
use Rattle.ir_core.specs.Meaning.{Waiting}
use Rattle.ir_builder_frames.specs.Settings.{Setting, rtype_of}
use Rattle.ir_builder_frames.specs.Placing.{HasType, Placed}
use Rattle.ir_builder_frames.specs.Coming.{world, running, Ends}
use Rattle.ir_builder_frames.specs.Matching.{Matches, IsThrown, CallsWork}
use Rattle.ir_builder_frames.specs.Computing.{Shows, Arrives}

-- what is done with something that is known, by the bound of the calls and turns
abbrev pub Behind : Type 0 → Type 0
Behind A = ℕ → A → Does Value

-- a register shows a value of a type
abbrev pub HasValue : Sort → ℕ → Value → Regs → Type 0
HasValue u q v regs = Shows u v (regs q)

abbrev pub by_truth : Behind Value → Behind Value → Behind Value
by_truth body other n v = truth_of v >>= λ h. if h then body n v else other n v

-- where registers hold what is known, the code from the first builder's place to the second's does what is said with it, and leaves a
-- value of a type in another register
pub record ComputesFrom {A : Type 0} (x : Setting) (From : A → Regs → Type 0) (t : Sort) (m : Behind A) (old new : Building) (r : ℕ) : Type 0 where
  pub extends : Extends old new
  pub type : HasType new r (rtype_of t)
  pub runs : (p : Program) (fn : ℕ) (h : Option ℕ) → Placed p fn old new h → (n : ℕ) → CallsWork p x.source n → (regs : Regs) (below : List Waiting) (s : State) (a : A) → Matches x regs s → s.turns ≤ n → From a regs → Ends p s.turns (running fn (length old.blocks) (length old.ops) regs below (world None s)) (m n a s) (Arrives (Shows t) fn (length new.blocks) (length new.ops) below (length old.regs) regs s r) (IsThrown fn h below x (length old.regs) regs)
