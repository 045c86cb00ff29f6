-- Code that computes a value into a register.
use Rattle.std.specs.Prelude.{◌≡◌, ℕ, ◌<◌, ◌≤◌, List, [], ◌∷◌, length, Option, Some, None}
use Rattle.value_core.specs.Value.{Value}
use Rattle.py_typed.specs.Sorts.{Sort}
use Rattle.py_typed.specs.Expressions.{TypedExpr, TypedNode}
use Rattle.source_soundness.specs.Watched.{expression, node}
use Rattle.source_meaning.specs.State.{State, Outcome, Does}
use Rattle.ir_core.specs.declared.code.Program.{Program}
use Rattle.ir_core.specs.declared.code.RType.{RType}
use Rattle.ir_core.specs.declared.code.Reg.{Reg}
use Rattle.ir_core.specs.Rows.{Declared, type_of_reg}
use Rattle.ir_core.specs.Registers.{Held, Holds, Regs}
use Rattle.ir_builder_frames.specs.Building.{Building, Extends}
use Rattle.ir_core.specs.Meaning.{Waiting, Config}
use Rattle.ir_builder_frames.specs.Settings.{Setting, rtype_of}
use Rattle.ir_builder_frames.specs.Watching.{watch, calls_in}
use Rattle.ir_builder_frames.specs.Placing.{HasType, Has, Placed}
use Rattle.ir_builder_frames.specs.Coming.{world, running, Leads, Ends}
use Rattle.ir_builder_frames.specs.Matching.{HasKind, Matches, HasRoom, IsThrown, CallsWork}

-- how a register stands for a value
abbrev pub Showing : Type 1
Showing = Value → Held → Type 0

-- by the value itself, and so with what a type says of it
abbrev pub Itself : Showing
Itself v h = h ≡ Holds v

abbrev pub Shows : Sort → Showing
Shows t v h = Itself v h × HasKind t v

-- a meaning, by the bound of the calls and turns
abbrev pub Meaning : Type 0 → Type 0
Meaning A = ℕ → Does A

-- what an expression means, by the bound of the calls and turns
abbrev pub means : Setting → TypedExpr → Meaning Value
means x e n = expression (watch x.source) x.source.classes.classes (calls_in x.source n) x.source.globals x.variables e

-- the same of its node, whose value is not looked at yet
abbrev pub means_node : Setting → TypedNode → Sort → Meaning Value
means_node x k t n = node (watch x.source) x.source.classes.classes (calls_in x.source n) x.source.globals x.variables k t

-- from a builder's place on the code does what the meaning says, wherever calls work and registers stand for the variables: with the
-- value that it gives the machine comes to what a condition says, and an exception goes to the handler or out of the function
abbrev pub DoesFrom : {A : Type 0} (p : Program) (fn : ℕ) (h : Option ℕ) (x : Setting) → Meaning A → Building → (List Waiting → Regs → State → A → State → Config → Type 0) → Type 0
DoesFrom p fn h x m old Comes =
    (n : ℕ) → CallsWork p x.source n → (regs : Regs) (below : List Waiting) (s : State) → Matches x regs s → s.turns ≤ n → Ends p s.turns (running fn (length old.blocks) (length old.ops) regs below (world None s)) (m n s) (Comes below regs s) (IsThrown fn h below x (length old.regs) regs)

-- the machine is at a place, with the value in a register; the first registers are as before, and so are the function's variables
pub record Arrives (K : Showing) (fn k i : ℕ) (below : List Waiting) (keep : ℕ) (regs : Regs) (before : State) (r : ℕ) (v : Value) (s : State) (d : Config) : Type 0 where
  pub now : Regs
  pub is : d ≡ running fn k i now below (world None s)
  pub shows : K v (now r)
  pub kept : (j : ℕ) → j < keep → now j ≡ regs j
  pub same : s.locals ≡ before.locals

-- the code from the first builder's place to the second's does what the meaning says, and leaves the value in a register
pub record Computes (x : Setting) (K : Showing) (t : RType) (m : Meaning Value) (old new : Building) (r : ℕ) : Type 0 where
  pub extends : Extends old new
  pub type : HasType new r t
  pub runs : (p : Program) (fn : ℕ) (h : Option ℕ) → Placed p fn old new h → DoesFrom p fn h x m old (λ below regs s. Arrives K fn (length new.blocks) (length new.ops) below (length old.regs) regs s r)

-- the same for values in a row
abbrev pub ShowAll : List Sort → List Value → Regs → List Reg → Type 0
ShowAll [] [] regs [] = Unit {0}
ShowAll (t ∷ ts) (v ∷ vs) regs (r ∷ rs) = Shows t v (regs r.0) × ShowAll ts vs regs rs
ShowAll _ _ regs _ = ⊥

abbrev pub HaveTypes : Declared → List Sort → List Reg → Type 0
HaveTypes declared [] [] = Unit {0}
HaveTypes declared (t ∷ ts) (r ∷ rs) = (type_of_reg declared r ≡ Some (rtype_of t)) × HaveTypes declared ts rs
HaveTypes declared _ _ = ⊥

pub record ArrivesAll (ts : List Sort) (fn k i : ℕ) (below : List Waiting) (keep : ℕ) (regs : Regs) (before : State) (rs : List Reg) (vs : List Value) (s : State) (d : Config) : Type 0 where
  pub now : Regs
  pub is : d ≡ running fn k i now below (world None s)
  pub shows : ShowAll ts vs now rs
  pub kept : (j : ℕ) → j < keep → now j ≡ regs j
  pub same : s.locals ≡ before.locals

pub record ComputesAll (x : Setting) (ts : List Sort) (m : Meaning (List Value)) (old new : Building) (rs : List Reg) : Type 0 where
  pub extends : Extends old new
  pub types : HaveTypes new.regs ts rs
  pub runs : (p : Program) (fn : ℕ) (h : Option ℕ) → Placed p fn old new h → DoesFrom p fn h x m old (λ below regs s. ArrivesAll ts fn (length new.blocks) (length new.ops) below (length old.regs) regs s rs)

-- code in one block, with no call and no failure, that makes a value of what registers hold
pub record Makes (old new : Building) (r : ℕ) (t : RType) (from : Regs → Held → Type 0) : Type 0 where
  pub extends : Extends old new
  pub type : HasType new r t
  pub above : length old.regs ≤ r
  pub blocks : length new.blocks ≡ length old.blocks
  pub runs : (p : Program) (fn : ℕ) → Has p fn new → (regs : Regs) (below : List Waiting) (s : State) (h : Held) → from regs h → (now : Regs) × Leads p (running fn (length old.blocks) (length old.ops) regs below (world None s)) (running fn (length new.blocks) (length new.ops) now below (world None s)) × (now r ≡ h) × ((j : ℕ) → j < length old.regs → now j ≡ regs j)

-- code without a call that does what the source does with what registers hold, as the condition says: a value goes into a
-- register, and an exception to the handler or out of the function
pub record Attempts (K : Showing) (old new : Building) (r : ℕ) (t : RType) (from : Regs → State → Outcome Value → Type 0) : Type 0 where
  pub extends : Extends old new
  pub type : HasType new r t
  pub runs : (p : Program) (fn : ℕ) (h : Option ℕ) → Placed p fn old new h → (x : Setting) → HasRoom x old → (regs : Regs) (below : List Waiting) (s : State) → Matches x regs s → (res : Outcome Value) → from regs s res → Ends p s.turns (running fn (length old.blocks) (length old.ops) regs below (world None s)) res (Arrives K fn (length new.blocks) (length new.ops) below (length old.regs) regs s r) (IsThrown fn h below x (length old.regs) regs)
