-- What becomes of a frame's ledger between two moments.
use Rattle.std.specs.Prelude.{◌≡◌, ◌≤◌, ℕ, ◌+◌, length, Some, slice_get}
use Rattle.value_core.specs.Items.{Items}
use Rattle.c_core.specs.Cells.{times}
use Rattle.c_core.specs.Machine.{MachineState}
use Rattle.c_core.specs.Run.{start}
use Rattle.c_core.specs.Laws.{Reaches}
use Rattle.ir_core.specs.declared.code.Block.{Block}
use Rattle.ir_core.specs.declared.code.Func.{Func}
use Rattle.ir_core.specs.declared.code.Program.{Program}
use Rattle.ir_core.specs.Lower.{lower}
use Rattle.ir_core.specs.Shape.{Shape}
use Rattle.c_core_ownership_laws.specs.Frames.{total}
use Rattle.liveness.specs.Paths.{MetAt}
use Rattle.refcount_insert_rule.specs.Counted.{owned, IsCountedFunc, IsCountedProgram}
use Rattle.refcount_insert_order_laws.specs.Places.{NewBlock, group_place, EachCounted}

-- Wherever a run stands at the first line of a group of a function, and later or earlier at that of another one, be it the next: what the
-- ledger gained from the one moment to the other is what the registers own there beyond what they owned here.
abbrev pub GroupsBring : Program → ℕ → (f g : Func) → IsCountedFunc f g → Type 0
GroupsBring q n f g c =
    (b d : ℕ) (k l : Block) → slice_get f.blocks b ≡ Some k → slice_get f.blocks d ≡ Some l → MetAt f b 0 → MetAt f d 0 → (here : NewBlock q f g c b k) × (there : NewBlock q f g c d l) × ((i j : ℕ) → i ≤ length here.front → j ≤ length there.front → (turns : ℕ) (items : Items) (first other : ℕ) (s t : MachineState) → Reaches (lower q) first (start (lower q) turns items) s → Reaches (lower q) other (start (lower q) turns items) t → s.top.func ≡ n → t.top.func ≡ n → s.top.place ≡ group_place here i → t.top.place ≡ group_place there j → (cell : ℕ) → times t.top.ledger cell + total (owned f c.tables b i) s.top.vars cell ≡ times s.top.ledger cell + total (owned f c.tables d j) t.top.vars cell)

-- In each run of the C text of a program with its counts, what stands between two moments in front of groups brings the ledger of the
-- frame from the number of references that its registers own at the one to that at the other.
abbrev pub GroupsBringLedgers : Type 0
GroupsBringLedgers =
    (p q : Program) → Shape p → (is : IsCountedProgram p q) → EachCounted (GroupsBring q) 0 p.funcs q.funcs is.funcs
