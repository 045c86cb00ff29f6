-- What the code of parts of simple statements does.
use Rattle.std.specs.Prelude.{◌≡◌, ℕ, ◌≤◌, List, length, Option, Some, None, slice_set, Bool, true, false, nat_lt}
use Rattle.value_core.specs.Value.{Value}
use Rattle.py_typed.specs.Sorts.{Sort}
use Rattle.source_meaning.specs.State.{State, Does, Gives, needs}
use Rattle.py_typed.specs.Statements.{TypedTarget, LocalTarget, GlobalTarget}
use Rattle.source_meaning.specs.WaysOut.{Returns}
use Rattle.ir_core.specs.declared.code.Program.{Program}
use Rattle.ir_builder_frames.specs.Building.{Building, Extends}
use Rattle.ir_core.specs.Registers.{Holds, Regs}
use Rattle.ir_core.specs.Meaning.{Config, Waiting}
use Rattle.ir_builder_frames.specs.Settings.{Setting}
use Rattle.ir_builder_frames.specs.Placing.{Has}
use Rattle.ir_builder_frames.specs.Coming.{world, running, Leads}
use Rattle.ir_builder_frames.specs.Matching.{HasGlobals, Matches}
use Rattle.ir_builder_loops_and_jumps.specs.declared.ways.Way.{Way}
use Rattle.ir_builder_loops_and_jumps.specs.declared.ways.Exit.{Exit}
use Rattle.ir_builder_loops_and_jumps.specs.Runs.{JumpTo, OpenIn, GivesOne, Flows}

-- a state with a value in a variable of the function or of the module
abbrev pub with_value : TypedTarget → Value → State → State
with_value (LocalTarget k) v s = record s { locals = slice_set s.locals k (Some v) }
with_value (GlobalTarget k) v s = record s { globals = slice_set s.globals k (Some v) }
with_value target v s = s

-- the variable is one of those that the state has
abbrev pub is_there : TypedTarget → State → Bool
is_there (LocalTarget k) s = nat_lt k (length s.locals)
is_there (GlobalTarget k) s = nat_lt k (length s.globals)
is_there target s = false

-- what the source does that puts a value into it
abbrev pub storing : TypedTarget → Value → Does (Unit {0})
storing target v s = needs (is_there target s) (λ u. Gives tt (with_value target v u)) s

-- a value in a register is put into a variable
pub record Sets (x : Setting) (target : TypedTarget) (r : ℕ) (old new : Building) : Type 0 where
  pub extends : Extends old new
  pub blocks : length new.blocks ≡ length old.blocks
  pub does : (p : Program) (fn : ℕ) → Has p fn new → HasGlobals p x.source → (regs : Regs) (below : List Waiting) (s : State) (v : Value) → Matches x regs s → regs r ≡ Holds v → is_there target s ≡ true → (now : Regs) × Leads p (running fn (length old.blocks) (length old.ops) regs below (world None s)) (running fn (length new.blocks) (length new.ops) now below (world None (with_value target v s))) × Matches x now (with_value target v s) × ((j : ℕ) → x.frame.locals.top ≤ j → now j ≡ regs j)

-- a value in a register is returned
pub record Leaves (x : Setting) (r : ℕ) (old new : Building) (exits : List Exit) : Type 0 where
  pub extends : Extends old new
  pub opens : OpenIn new (length old.blocks) (length new.blocks) exits
  pub does : (p : Program) (result : Option Sort) (fn : ℕ) (to : Way → ℕ) → Has p fn new → JumpTo p fn new to exits → (k i : ℕ) (regs : Regs) (below : List Waiting) (s : State) (v : Value) → Matches x regs s → regs r ≡ Holds v → GivesOne result → (d : Config) × Leads p (running fn (length old.blocks) (length old.ops) regs below (world None s)) d × Flows p result fn k i to exits below x (length old.regs) regs (Returns v) s d
