-- What operations on registers do: what the source does with the values in them.
use Rattle.std.specs.Prelude.{◌≡◌, ℕ, Bool, true, List, length, None}
use Rattle.value_core.specs.Value.{Value}
use Rattle.py_typed.specs.Fits.{is_number}
use Rattle.py_typed.specs.Sorts as sort
use Rattle.py_typed.specs.Sorts.{Sort}
use Rattle.source_meaning.specs.State.{State, Outcome, Does}
use Rattle.ir_core.specs.Registers.{Regs}
use Rattle.ir_core.specs.declared.code.Program.{Program}
use Rattle.ir_core.specs.Meaning.{Waiting, Config}
use Rattle.ir_builder_frames.specs.Building.{Building, Extends}
use Rattle.ir_builder_frames.specs.Coming.{Ends, running, world}
use Rattle.ir_builder_frames.specs.Computing.{Shows}
use Rattle.ir_builder_frames.specs.Placing.{Has}

-- the types whose values have a text here: texts, whole numbers, and bools
abbrev pub is_written : Sort → Bool
is_written sort.Str = true
is_written t = is_number t

-- ---- what the source does

-- with the value in a register, which has a type
pub record ActsOn (t : Sort) (x : ℕ) (go : Value → Does Value) (regs : Regs) (s : State) (res : Outcome Value) : Type 0 where
  pub v : Value
  pub shows : Shows t v (regs x)
  pub does : res ≡ go v s

-- and with those in two registers
pub record ActsOnTwo (t u : Sort) (x y : ℕ) (go : Value → Value → Does Value) (regs : Regs) (s : State) (res : Outcome Value) : Type 0 where
  pub v : Value
  pub left : Shows t v (regs x)
  pub w : Value
  pub right : Shows u w (regs y)
  pub does : res ≡ go v w s

-- and with none
abbrev pub Acts : Does Value → Regs → State → Outcome Value → Type 0
Acts go regs s res = res ≡ go s

-- ---- code without a result

-- the machine is at a place, with all registers and the function's variables as before
pub record Stays (fn : ℕ) (new : Building) (below : List Waiting) (regs : Regs) (before : State) (v : Value) (s : State) (d : Config) : Type 0 where
  pub same : s.locals ≡ before.locals
  pub is : d ≡ running fn (length new.blocks) (length new.ops) regs below (world None s)

-- code that does what the source does with what registers hold, as the condition says, and raises nothing
pub record Alters (from : Regs → State → Outcome Value → Type 0) (old new : Building) : Type 0 where
  pub extends : Extends old new
  pub runs : (p : Program) (fn : ℕ) → Has p fn new → (regs : Regs) (below : List Waiting) (s : State) (res : Outcome Value) → from regs s res → Ends p s.turns (running fn (length old.blocks) (length old.ops) regs below (world None s)) res (Stays fn new below regs s) (λ e u d. ⊥)
