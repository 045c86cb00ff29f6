-- Loops that count: what their code does besides that of their bodies.
use Rattle.std.specs.Prelude.{◌≡◌, ◌≢◌, ◌≤◌, ◌<◌, nat_lt, ℕ, ℤ, pos, ◌+ℤ◌, Bool, true, false, List, [], ◌∷◌, length, Option, Some, None}
use Rattle.value_core.specs.Arithmetic.{lies_within}
use Rattle.value_core.specs.Value.{Value, IntVal, BoolVal}
use Rattle.py_syntax.specs.declared.expression.BinOp.TheVariants.{Add}
use Rattle.py_typed.specs.Sorts as sort
use Rattle.py_typed.specs.Sorts.{Sort}
use Rattle.py_typed.specs.Expressions.{TypedExpr, type_of}
use Rattle.py_typed.specs.Statements.{TypedTarget}
use Rattle.source_soundness.specs.Shapes.{has_shape}
use Rattle.source_meaning.specs.State.{State, Outcome, Does, ◌>>=◌, on_to, give}
use Rattle.source_meaning.specs.Operations.{with_list, counted, list_item}
use Rattle.ir_core.specs.declared.code.Program.{Program}
use Rattle.ir_core.specs.declared.code.RType.TheVariants as rtype
use Rattle.ir_core.specs.Meaning.{Waiting}
use Rattle.ir_core.specs.Registers.{Held, Holds, Regs}
use Rattle.ir_builder_frames.specs.Building.{Building, Extends}
use Rattle.ir_builder_frames.specs.Coming.{world, running, Leads, Ends}
use Rattle.ir_builder_frames.specs.Computing.{means, Shows, Meaning, Computes, Attempts}
use Rattle.ir_builder_frames.specs.Matching.{HasRoom, Matches, Stands, IsThrown, CallsWork}
use Rattle.ir_builder_frames.specs.Placing.{HasType, Placed}
use Rattle.ir_builder_frames.specs.Settings.{Setting, rtype_of}
use Rattle.ir_builder_operations.specs.declared.operation.Compared.TheVariants.{Ints, Natives}
use Rattle.ir_builder_operations.specs.declared.operation.Operation.{Operation}
use Rattle.ir_builder_operations.specs.declared.operation.Operation.TheVariants.{IntArithmetic, NativeArithmetic, Comparison}
use Rattle.ir_builder_operations.specs.declared.operation.Test.TheVariants.{Less}
use Rattle.ir_builder_operations.specs.Boxes.{boxed, taken_as}
use Rattle.ir_builder_operations.specs.Operating.{ActsOnTwo}
use Rattle.ir_builder_operations.specs.Rows.{compares, tested}
use Rattle.ir_builder_loops_and_jumps.specs.Around.{NothingBetween}
use Rattle.ir_builder_loops_and_jumps.specs.Means.{means_start, means_bound}
use Rattle.ir_builder_statements.specs.declared.counting.Counter.{Counter}

-- ---- numbers

-- the type of whole numbers that is counted in
abbrev pub number_sort : Bool → Sort
number_sort true = sort.I64
number_sort false = sort.Int

-- a number is one of a type of whole numbers
abbrev pub is_in_range : Sort → ℤ → Bool
is_in_range sort.I64 n = lies_within 63 n
is_in_range t n = lies_within 127 n

-- the operations that add two numbers, and find whether the first of two is less
abbrev pub adding_of : Bool → Operation
adding_of true = NativeArithmetic Add
adding_of false = IntArithmetic Add

abbrev pub less_of : Bool → Operation
less_of true = Comparison Natives Less
less_of false = Comparison Ints Less

-- ---- what code does

-- the value in a register
abbrev pub Copies : ℕ → Regs → Held → Type 0
Copies x regs h = (v : Value) × (regs x ≡ Holds v) × (h ≡ Holds v)

-- a value of a type is computed into a register that was not there
abbrev pub ComputesNew : Setting → Sort → Meaning Value → Building → Building → ℕ → Type 0
ComputesNew x t m old new r = (length old.regs ≤ r) × Computes x (Shows t) (rtype_of t) m old new r

-- whether the number in the first register is less than that in the second
abbrev pub FindsLess : Sort → ℕ → ℕ → Building → Building → ℕ → Type 0
FindsLess t q q' old new r = Attempts (Shows sort.Bool) old new r rtype.Bool (ActsOnTwo t t q q' (compares (tested Less)))

-- the number in a register becomes the next one, where that is one of the type too
pub record CountsOn (t : Sort) (r : ℕ) (old new : Building) : Type 0 where
  pub extends : Extends old new
  pub runs : (p : Program) (fn : ℕ) (h : Option ℕ) → Placed p fn old new h → (x : Setting) → HasRoom x old → x.frame.locals.top ≤ r → r < length old.regs → (k : ℤ) → is_in_range t k ≡ true → is_in_range t (k +ℤ pos 1) ≡ true → (regs : Regs) (below : List Waiting) (s : State) → regs r ≡ Holds (IntVal k) → Matches x regs s → (now : Regs) × Leads p (running fn (length old.blocks) (length old.ops) regs below (world None s)) (running fn (length new.blocks) (length new.ops) now below (world None s)) × (now r ≡ Holds (IntVal (k +ℤ pos 1))) × Matches x now s × ((j : ℕ) → j < length old.regs → j ≢ r → now j ≡ regs j)

-- what a loop does between its body and its turn
abbrev pub StepsOn : Option Counter → Building → Building → Type 0
StepsOn None old new = NothingBetween old new
StepsOn (Some c) old new = CountsOn (number_sort c.native) c.reg.0 old new

-- the register that it needs is there
abbrev pub HasCounter : Option Counter → Building → Type 0
HasCounter None b = Unit {0}
HasCounter (Some c) b = HasType b c.reg.0 (rtype_of (number_sort c.native))

-- the value of a type in a register, which has that type's shape, is bound to targets
pub record Binds (x : Setting) (targets : List TypedTarget) (t : Sort) (r : ℕ) (old new : Building) : Type 0 where
  pub extends : Extends old new
  pub runs : (p : Program) (fn : ℕ) (h : Option ℕ) → Placed p fn old new h → (n : ℕ) → CallsWork p x.source n → (v : Value) (regs : Regs) (below : List Waiting) (s : State) → Shows t v (regs r) → has_shape x.source.classes.classes s.store t v ≡ true → Matches x regs s → s.turns ≤ n → Ends p s.turns (running fn (length old.blocks) (length old.ops) regs below (world None s)) (means_bound x targets t v n s) (λ u s1 d. Stands fn (length new.blocks) (length new.ops) below None x (length old.regs) regs s1 d) (IsThrown fn h below x (length old.regs) regs)

-- the bounds of a range are in two registers that were not there, the first of which is counted up
pub record Ranges (x : Setting) (start : Option TypedExpr) (stop : TypedExpr) (old new : Building) (c : Counter) (r : ℕ) : Type 0 where
  pub type : number_sort c.native ≡ type_of stop
  pub middle : Building
  pub first : ComputesNew x (number_sort c.native) (means_start x start) old middle c.reg.0
  pub second : ComputesNew x (number_sort c.native) (means x stop) middle new r

-- ---- lists

-- whether a list has an item of a number, and that item
abbrev pub goes_on : Value → ℕ → Does Bool
goes_on l i = with_list l (λ k vs. give (nat_lt i (counted (length vs))))

-- whether the list in a register has an item of the number in another one
pub record AsksNext (q l : ℕ) (regs : Regs) (s : State) (res : Outcome Value) : Type 0 where
  pub i : ℕ
  pub number : regs q ≡ Holds (IntVal (pos i))
  pub items : Value
  pub list : regs l ≡ Holds items
  pub does : res ≡ on_to (goes_on items i s) (λ h. give (BoolVal h))

abbrev pub FindsNext : ℕ → ℕ → Building → Building → ℕ → Type 0
FindsNext q l old new r = Attempts (Shows sort.Bool) old new r rtype.Bool (AsksNext q l)

-- the item of the list in a register, as one of a type
abbrev pub TakesItem : Sort → ℕ → ℕ → Building → Building → ℕ → Type 0
TakesItem t l q old new r = Attempts (Shows t) old new r (rtype_of t) (ActsOnTwo boxed sort.Int l q (λ v w. list_item v w >>= taken_as t))
