-- What the code of `print` writes.
use Rattle.std.specs.Prelude.{◌≡◌, ℕ, ◌<◌, zero, suc, List, [], ◌∷◌, ◌++◌, length, Option, None, take}
use Rattle.std.specs.List.{list_all}
use Rattle.value_core.specs.Value.{Value}
use Rattle.py_typed.specs.Sorts.{Sort}
use Rattle.source_meaning.specs.State.{State, ◌>>=◌, ◌>>◌, give, needs, write}
use Rattle.source_meaning.specs.WaysOut.{Flow, Goes}
use Rattle.source_meaning.specs.Operations.{line_of, text_of, has_text}
use Rattle.c_core.specs.declared.primitive.Primitive.TheVariants as prim
use Rattle.c_core.specs.declared.primitive.IoPrim.TheVariants as io
use Rattle.ir_core.specs.declared.code.Op.{Op}
use Rattle.ir_core.specs.declared.code.Op.TheVariants.{Prim}
use Rattle.ir_core.specs.declared.code.PArg.TheVariants.{Var}
use Rattle.ir_core.specs.declared.code.Reg.{Reg}
use Rattle.ir_core.specs.declared.code.Program.{Program}
use Rattle.ir_builder_frames.specs.Building.{Building, Extends}
use Rattle.ir_core.specs.Registers.{Regs}
use Rattle.ir_core.specs.Meaning.{Waiting}
use Rattle.py_typed.specs.Statements.{TypedModule}
use Rattle.ir_builder_frames.specs.Settings.{Setting}
use Rattle.ir_builder_frames.specs.Watching.{watch}
use Rattle.ir_builder_frames.specs.Placing.{Placed}
use Rattle.ir_builder_frames.specs.Coming.{world, running, Leads}
use Rattle.ir_builder_frames.specs.Matching.{Matches, HasRoom}
use Rattle.ir_builder_frames.specs.Computing.{Meaning, Shows, ShowAll}

abbrev pub written : State → List ℕ → State
written s text = record s { output = s.output ++ text }

-- the operation that writes the text in a register
abbrev pub writes_of : Reg → Op
writes_of r = Prim None (prim.Io io.Write) (Var r ∷ [])

-- what is written of the value with a number in a row: its text, behind a space where it is not the first
abbrev pub item_text : ℕ → Value → List ℕ
item_text zero v = text_of v
item_text (suc i) v = 32 ∷ text_of v

-- and of values from a number on
abbrev pub row_text : ℕ → List Value → List ℕ
row_text i [] = []
row_text i (v ∷ vs) = item_text i v ++ row_text (suc i) vs

-- the machine comes from the first builder's place to the second's and has written a text; the registers that were there are as before
abbrev pub Prints : Program → ℕ → Building → Building → Regs → List Waiting → State → List ℕ → Type 0
Prints p fn old new regs below s text =
    (now : Regs) × Leads p (running fn (length old.blocks) (length old.ops) regs below (world None s)) (running fn (length new.blocks) (length new.ops) now below (world None (written s text))) × ((j : ℕ) → j < length old.regs → now j ≡ regs j)

-- code that writes a text
pub record WritesText (old new : Building) (text : List ℕ) : Type 0 where
  pub extends : Extends old new
  pub runs : (p : Program) (fn : ℕ) (h : Option ℕ) → Placed p fn old new h → (regs : Regs) (below : List Waiting) (s : State) → Prints p fn old new regs below s text

-- code that writes what is made of the value of a type in a register
pub record WritesOne (t : Sort) (r : ℕ) (old new : Building) (text : Value → List ℕ) : Type 0 where
  pub extends : Extends old new
  pub runs : (p : Program) (fn : ℕ) (h : Option ℕ) → Placed p fn old new h → (x : Setting) → HasRoom x old → (regs : Regs) (below : List Waiting) (s : State) → Matches x regs s → (v : Value) → Shows t v (regs r) → Prints p fn old new regs below s (text v)

-- code that writes what is made of the values of types in registers
pub record Writes (ts : List Sort) (rs : List Reg) (old new : Building) (text : List Value → List ℕ) : Type 0 where
  pub extends : Extends old new
  pub runs : (p : Program) (fn : ℕ) (h : Option ℕ) → Placed p fn old new h → (x : Setting) → HasRoom x old → (regs : Regs) (below : List Waiting) (s : State) → Matches x regs s → (vs : List Value) → ShowAll ts vs regs rs → Prints p fn old new regs below s (text vs)

-- the first values in a row, one space between
abbrev pub first_texts : ℕ → List Value → List ℕ
first_texts i vs = row_text 0 (take i vs)

-- what `print` does with values, where what it gives is looked at as one of a type
abbrev pub printed : TypedModule → Sort → Meaning (List Value) → Meaning Flow
printed m t vs n = vs n >>= (λ vs. needs (list_all has_text vs) (write (line_of vs))) >>= watch m t >> give Goes
