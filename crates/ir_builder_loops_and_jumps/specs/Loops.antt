-- The parts of a loop, whatever it goes over. In registers of its own it may hold where it is; what they hold where the test of an item
-- comes, and what they hold once the test held, is up to the loop.
use Rattle.std.specs.Prelude.{◌≡◌, ℕ, ◌≤◌, Bool, true, List, length, Option, None}
use Rattle.value_core.specs.Value.{BoolVal}
use Rattle.py_typed.specs.Sorts.{Sort}
use Rattle.source_meaning.specs.State.{State}
use Rattle.source_meaning.specs.WaysOut.{Flow}
use Rattle.ir_core.specs.declared.code.Program.{Program}
use Rattle.ir_core.specs.declared.code.RType.TheVariants.{Bool as BoolType}
use Rattle.ir_builder_frames.specs.Building.{Building, Extends}
use Rattle.ir_core.specs.Registers.{Holds, Regs}
use Rattle.ir_core.specs.Meaning.{Config, Waiting}
use Rattle.ir_builder_frames.specs.Settings.{Setting}
use Rattle.ir_builder_frames.specs.Placing.{HasType, Placed}
use Rattle.ir_builder_frames.specs.Coming.{world, running, Leads, Ends}
use Rattle.ir_builder_frames.specs.Matching.{Matches, SameIn, Stands, IsThrown, CallsWork}
use Rattle.ir_builder_frames.specs.Computing.{Meaning}
use Rattle.ir_builder_loops_and_jumps.specs.declared.ways.Way.{Way}
use Rattle.ir_builder_loops_and_jumps.specs.declared.ways.Exit.{Exit}
use Rattle.ir_builder_loops_and_jumps.specs.Runs.{JumpTo, OpenIn, Flows}

-- a loop that holds nothing in registers
abbrev pub Always : (X : Type 0) → X → Regs → Type 0
Always X i regs = Unit {0}

-- the answer of a test is in a register, and where it is true the registers hold what the item asks for
pub record Asked (fn k i : ℕ) (below : List Waiting) (x : Setting) (keep : ℕ) (regs : Regs) (r : ℕ) (Inside : Regs → Type 0) (t : Bool) (s : State) (d : Config) : Type 0 where
  pub stands : Stands fn k i below None x keep regs s d
  pub answer : stands.now r ≡ Holds (BoolVal t)
  pub inside : t ≡ true → Inside stands.now

-- the code from the first builder's place to the second's asks whether there is this item
pub record Asks {X : Type 0} (x : Setting) (At Inside : X → Regs → Type 0) (test : X → Meaning Bool) (old new : Building) (r : ℕ) : Type 0 where
  pub extends : Extends old new
  pub type : HasType new r BoolType
  pub runs : (p : Program) (fn : ℕ) (h : Option ℕ) → Placed p fn old new h → (n : ℕ) → CallsWork p x.source n → (i : X) (regs : Regs) (below : List Waiting) (s : State) → At i regs → Matches x regs s → s.turns ≤ n → Ends p s.turns (running fn (length old.blocks) (length old.ops) regs below (world None s)) (test i n s) (Asked fn (length new.blocks) (length new.ops) below x (length old.regs) regs r (Inside i)) (IsThrown fn h below x (length old.regs) regs)

-- code that works where registers hold what an item asks for. Behind the variables and their flags it leaves the registers below a
-- number as they were, but for the one for a returned value
pub record WorksAt {X : Type 0} (x : Setting) (result : Option Sort) (At : X → Regs → Type 0) (m : X → Meaning Flow) (keep : ℕ) (old new : Building) (exits : List Exit) : Type 0 where
  pub extends : Extends old new
  pub opens : OpenIn new (length old.blocks) (length new.blocks) exits
  pub runs : (p : Program) (fn : ℕ) (h : Option ℕ) (to : Way → ℕ) → Placed p fn old new h → JumpTo p fn new to exits → (n : ℕ) → CallsWork p x.source n → (i : X) (regs : Regs) (below : List Waiting) (s : State) → At i regs → Matches x regs s → s.turns ≤ n → Ends p s.turns (running fn (length old.blocks) (length old.ops) regs below (world None s)) (m i n s) (Flows p result fn (length new.blocks) (length new.ops) to exits below x keep regs) (IsThrown fn h below x keep regs)

-- code that goes from an item to the next one, and of the registers leaves those as they were that such code leaves
pub record Steps {X : Type 0} (x : Setting) (Inside At : X → Regs → Type 0) (next : X → X) (keep : ℕ) (old new : Building) : Type 0 where
  pub extends : Extends old new
  pub runs : (p : Program) (fn : ℕ) (h : Option ℕ) → Placed p fn old new h → (i : X) (regs : Regs) (below : List Waiting) (s : State) → Inside i regs → Matches x regs s → (now : Regs) × Leads p (running fn (length old.blocks) (length old.ops) regs below (world None s)) (running fn (length new.blocks) (length new.ops) now below (world None s)) × At (next i) now × Matches x now s × SameIn x.frame keep now regs
