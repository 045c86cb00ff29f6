-- What the code of a statement does.
use Rattle.std.specs.Prelude.{◌≡◌, ℕ, suc, ◌≤◌, ◌<◌, Bool, true, false, List, [], ◌∷◌, ◌++◌, length, Option, Some, None}
use Rattle.value_core.specs.Value.{Value}
use Rattle.source_meaning.specs.State.{State}
use Rattle.source_meaning.specs.WaysOut.{Flow, Goes, Breaks, Continues, Returns}
use Rattle.py_typed.specs.Sorts.{Sort}
use Rattle.ir_core.specs.declared.code.Reg.{Reg}
use Rattle.ir_core.specs.declared.code.Last.TheVariants.{Unreachable, Goto}
use Rattle.ir_core.specs.declared.code.Program.{Program}
use Rattle.ir_builder_frames.specs.Building.{Building, held, Extends}
use Rattle.ir_core.specs.Building.{with_last}
use Rattle.ir_core.specs.Items.{End}
use Rattle.ir_core.specs.Registers.{Holds, Regs}
use Rattle.ir_core.specs.Meaning.{Config, Waiting, item_at}
use Rattle.ir_builder_frames.specs.Settings.{Setting}
use Rattle.ir_builder_frames.specs.Placing.{Placed}
use Rattle.ir_builder_frames.specs.Calling.{Open}
use Rattle.ir_builder_frames.specs.Coming.{world, returning}
use Rattle.ir_builder_frames.specs.Matching.{Stands}
use Rattle.ir_builder_frames.specs.Computing.{Meaning, DoesFrom}
use Rattle.ir_builder_loops_and_jumps.specs.declared.ways.Way.{Way}
use Rattle.ir_builder_loops_and_jumps.specs.declared.ways.Way.TheVariants.{Break, Continue, Return, Join}
use Rattle.ir_builder_loops_and_jumps.specs.declared.ways.Exit.{Exit}
use Rattle.ir_builder_loops_and_jumps.specs.Ways.{uses}

-- ---- exits

-- in the program the open end of each exit is a jump to the place of its way
abbrev pub JumpTo : Program → ℕ → Building → (Way → ℕ) → List Exit → Type 0
JumpTo p fn b to [] = Unit {0}
JumpTo p fn b to (e ∷ es) =
    ((i : ℕ) → held b e.block i ≡ Some (End Unreachable) → item_at p fn e.block i ≡ Some (End (Goto (to e.way)))) × JumpTo p fn b to es

-- each of these blocks is open, they rise, and they lie between the numbers
abbrev pub OpenIn : Building → ℕ → ℕ → List Exit → Type 0
OpenIn b from to [] = Unit {0}
OpenIn b from to (e ∷ es) = Open b e.block × (from ≤ e.block) × (e.block < to) × OpenIn b (suc e.block) to es

-- the end of a block as a jump, where it has a place
abbrev pub jumping : Option ℕ → ℕ → Building → Building
jumping None k b = b
jumping (Some t) k b = record b { blocks = with_last b.blocks k (Goto t) }

-- the ends of all exits as jumps to where a plan sends them
abbrev pub all_jumping : (Way → Option ℕ) → List Exit → Building → Building
all_jumping plan [] b = b
all_jumping plan (e ∷ es) b = all_jumping plan es (jumping (plan e.way) e.block b)

-- ---- what comes of a statement

-- a value may be given; a module's own statements give none
abbrev pub GivesOne : Option Sort → Type 0
GivesOne None = ⊥
GivesOne (Some t) = Unit {0}

-- a returned value leaves the function, or goes with its value to the statement that waits for it
pub record Brings (fn k : ℕ) (below : List Waiting) (x : Setting) (r keep : ℕ) (regs : Regs) (v : Value) (s : State) (d : Config) : Type 0 where
  pub stands : Stands fn k 0 below None x keep regs s d
  pub value : stands.now r ≡ Holds v

module _ (p : Program) (result : Option Sort) where
  abbrev pub Back : Option Reg → ℕ → (Way → ℕ) → List Exit → List Waiting → Setting → ℕ → Regs → Value → State → Config → Type 0
  Back None fn to exits below x keep regs v s d = d ≡ returning p v below (world None s)
  Back (Some r) fn to exits below x keep regs v s d = (uses Return exits ≡ true) × Brings fn (to Return) below x r.0 keep regs v s d

  -- after a statement: at the next place, or at the place of the way that it takes, which is then one of its exits
  abbrev pub Flows : ℕ → ℕ → ℕ → (Way → ℕ) → List Exit → List Waiting → Setting → ℕ → Regs → Flow → State → Config → Type 0
  Flows fn k i to exits below x keep regs Goes s d = Stands fn k i below None x keep regs s d
  Flows fn k i to exits below x keep regs Breaks s d = (uses Break exits ≡ true) × Stands fn (to Break) 0 below None x keep regs s d
  Flows fn k i to exits below x keep regs Continues s d =
      (uses Continue exits ≡ true) × Stands fn (to Continue) 0 below None x keep regs s d
  Flows fn k i to exits below x keep regs (Returns v) s d =
      GivesOne result × Back x.frame.ret fn to exits below x keep regs v s d

-- the code from the first builder's place to the second's does what the meaning says; the exits are left open
pub record Works (x : Setting) (result : Option Sort) (m : Meaning Flow) (old new : Building) (exits : List Exit) : Type 0 where
  pub extends : Extends old new
  pub opens : OpenIn new (length old.blocks) (length new.blocks) exits
  pub runs : (p : Program) (fn : ℕ) (h : Option ℕ) (to : Way → ℕ) → Placed p fn old new h → JumpTo p fn new to exits → DoesFrom p fn h x m old (λ below regs s. Flows p result fn (length new.blocks) (length new.ops) to exits below x (length old.regs) regs)

-- the same of code with a jump to behind an `if` at its end
pub record Joining (x : Setting) (result : Option Sort) (m : Meaning Flow) (old new : Building) (exits : List Exit) : Type 0 where
  pub extends : Extends old new
  pub opens : OpenIn new (length old.blocks) (length new.blocks) exits
  pub runs : (p : Program) (fn : ℕ) (h : Option ℕ) (to : Way → ℕ) → Placed p fn old new h → JumpTo p fn new to exits → item_at p fn (length new.blocks) (length new.ops) ≡ Some (End (Goto (to Join))) → DoesFrom p fn h x m old (λ below regs s. Flows p result fn (to Join) 0 to exits below x (length old.regs) regs)

-- no exit leaves a loop
abbrev pub LeavesNoLoop : List Exit → Type 0
LeavesNoLoop exits = (uses Break exits ≡ false) × (uses Continue exits ≡ false)

-- the code works, and its exits were added to a list. Where no loop is around, none of them leaves one
pub record Emitted (x : Setting) (result : Option Sort) (looping : Bool) (m : Meaning Flow) (old new : Building) (before after : List Exit) : Type 0 where
  pub mine : List Exit
  pub is : after ≡ before ++ mine
  pub works : Works x result m old new mine
  pub inside : looping ≡ false → LeavesNoLoop mine
