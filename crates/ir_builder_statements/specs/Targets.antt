-- What the code of targets does: values become ones of the targets' own types, and then they are put there.
use Rattle.std.specs.Prelude.{◌≡◌, ℕ, ◌≤◌, List, [], ◌∷◌, length, map, drop, Option, None}
use Rattle.value_core.specs.Value.{Value, Values, TupleVal, listed}
use Rattle.py_typed.specs.Sorts.{Sort}
use Rattle.py_typed.specs.Statements.{TypedTarget}
use Rattle.source_meaning.specs.State.{State, Does, ◌>>=◌}
use Rattle.source_meaning.specs.Operations.{coerced, tuple_part}
use Rattle.source_meaning.specs.StatementMeaning.{target_sort, coerce_each}
use Rattle.source_soundness.specs.Watched.{assign_each}
use Rattle.ir_core.specs.declared.code.Program.{Program}
use Rattle.ir_core.specs.declared.code.Reg.{Reg}
use Rattle.ir_core.specs.Meaning.{Waiting}
use Rattle.ir_core.specs.Registers.{Holds, Regs}
use Rattle.ir_builder_frames.specs.declared.frame.Frame.{Frame}
use Rattle.ir_builder_frames.specs.Building.{Building, Extends}
use Rattle.ir_builder_frames.specs.Coming.{world, running, Ends}
use Rattle.ir_builder_frames.specs.Computing.{Meaning, Shows, ShowAll, HaveTypes, ArrivesAll, Attempts}
use Rattle.ir_builder_frames.specs.Matching.{Matches, HaveKinds, IsKept, Stands, IsThrown, CallsWork}
use Rattle.ir_builder_frames.specs.Placing.{Placed}
use Rattle.ir_builder_frames.specs.Settings.{Setting, rtype_of}
use Rattle.ir_builder_frames.specs.Watching.{watch, calls_in}
use Rattle.ir_builder_operations.specs.Boxes.{boxed, taken_as}
use Rattle.ir_builder_operations.specs.Operating.{ActsOn}

-- ---- what is meant

-- the type of what a target takes
abbrev pub own_sort : Setting → TypedTarget → Sort
own_sort x target = target_sort x.source.classes.classes (calls_in x.source 0) x.source.globals x.variables target

abbrev pub own_sorts : Setting → List TypedTarget → List Sort
own_sorts x targets = map (own_sort x) targets

-- values as ones of the targets' types, and values to the targets, from the left
abbrev pub means_coerced : Setting → List TypedTarget → List Value → Meaning (List Value)
means_coerced x targets vs n = coerce_each x.source.classes.classes (calls_in x.source n) x.source.globals x.variables targets vs

abbrev pub means_assigned : Setting → List TypedTarget → List Value → Meaning (Unit {0})
means_assigned x targets vs n = assign_each (watch x.source) x.source.classes.classes (calls_in x.source n) x.source.globals x.variables targets vs

-- ---- values are put into targets

-- registers that no write changes: behind the variables and their flags, and not the one for a returned value
abbrev pub Lasting : Frame → List Reg → Type 0
Lasting f [] = Unit {0}
Lasting f (r ∷ rs) = (f.locals.top ≤ r.0) × IsKept f.ret r.0 × Lasting f rs

-- the values in registers, each of its target's own type, are put into the targets
pub record PutsEach (x : Setting) (targets : List TypedTarget) (rs : List Reg) (old new : Building) : Type 0 where
  pub extends : Extends old new
  pub runs : (p : Program) (fn : ℕ) (h : Option ℕ) → Placed p fn old new h → (n : ℕ) → CallsWork p x.source n → (vs : List Value) (regs : Regs) (below : List Waiting) (s : State) → ShowAll (own_sorts x targets) vs regs rs → Matches x regs s → s.turns ≤ n → Ends p s.turns (running fn (length old.blocks) (length old.ops) regs below (world None s)) (means_assigned x targets vs n s) (λ u s1 d. Stands fn (length new.blocks) (length new.ops) below None x (length old.regs) regs s1 d) (IsThrown fn h below x (length old.regs) regs)

-- ---- the parts of a tuple

-- the part with a number, which is of the first type, as one of the second
abbrev pub part_as : ℕ → Sort → Sort → Value → Does Value
part_as k s u v = (tuple_part k v >>= taken_as s) >>= coerced u

-- it is put into a register that was not there
pub record TakesPart (k : ℕ) (s u : Sort) (tuple : ℕ) (old new : Building) (r : ℕ) : Type 0 where
  pub above : length old.regs ≤ r
  pub attempts : Attempts (Shows u) old new r (rtype_of u) (ActsOn boxed tuple (part_as k s u))

-- the parts of the tuple in a register from a number on, which are of these types, are put into registers, each as one of its target's
-- own type
pub record Unpacks (x : Setting) (targets : List TypedTarget) (ss : List Sort) (k tuple : ℕ) (old new : Building) (rs : List Reg) : Type 0 where
  pub extends : Extends old new
  pub types : HaveTypes new.regs (own_sorts x targets) rs
  pub lasting : Lasting x.frame rs
  pub runs : (p : Program) (fn : ℕ) (h : Option ℕ) → Placed p fn old new h → (n : ℕ) (parts : Values) (regs : Regs) (below : List Waiting) (s : State) → regs tuple ≡ Holds (TupleVal parts) → HaveKinds ss (drop k (listed parts)) → Matches x regs s → Ends p s.turns (running fn (length old.blocks) (length old.ops) regs below (world None s)) (means_coerced x targets (drop k (listed parts)) n s) (ArrivesAll (own_sorts x targets) fn (length new.blocks) (length new.ops) below (length old.regs) regs s rs) (IsThrown fn h below x (length old.regs) regs)
