-- A program with its counts keeps its references in order.
use Rattle.std.specs.Prelude.{◌≡◌, ◌≤◌, ◌<◌, ℕ, suc, ◌+◌, Bool, true, false, List, length, Some, slice_get, drop}
use Rattle.value_core.specs.Items.{Items}
use Rattle.c_core.specs.Cells.{times}
use Rattle.c_core.specs.Holders.{owned_below}
use Rattle.c_core.specs.Machine.{Word, refs_of, Frame, MachineState}
use Rattle.c_core.specs.Run.{start}
use Rattle.c_core.specs.Laws.{Reaches}
use Rattle.ir_core.specs.declared.code.Op.{Op}
use Rattle.ir_core.specs.declared.code.Op.TheVariants.{Call, Virtual, TraitCall}
use Rattle.ir_core.specs.declared.code.Block.{Block}
use Rattle.ir_core.specs.declared.code.Func.{Func}
use Rattle.ir_core.specs.declared.code.Program.{Program}
use Rattle.ir_core.specs.Lower.{label_of, line_of, lines_from, lower}
use Rattle.ir_core.specs.Lowered.{IsLabelled}
use Rattle.ir_core.specs.Shape.{Shape}
use Rattle.c_core_ownership_laws.specs.Frames.{total}
use Rattle.c_core_ownership_laws.specs.Order.{Table, AreInOrder, ArePlaced}
use Rattle.liveness.specs.Paths.{MetAt}
use Rattle.refcount_insert_rule.specs.Counted.{owned, IsCountedFunc, IsCountedProgram}
use Rattle.refcount_insert_order_laws.specs.Places.{NewBlock, group_place, HasShares, EachCounted}

-- the C text of a program with its counts is in order by some table
abbrev pub CountedIsInOrder : Type 0
CountedIsInOrder = (p q : Program) → Shape p → IsCountedProgram p q → (t : Table) × AreInOrder (lower q) t

-- in a function, the first line of each group has the shares of the old block and place
abbrev pub GroupsHaveShares : Program → Table → ℕ → (f g : Func) → IsCountedFunc f g → Type 0
GroupsHaveShares q t n f g c =
    (b : ℕ) (k : Block) → slice_get f.blocks b ≡ Some k → MetAt f b 0 → (h : NewBlock q f g c b k) × ((i : ℕ) → i ≤ length h.front → HasShares f c.tables b i (t n (group_place h i)))

-- the places of the C text have the shares of some table, which at the first line of each group are those of the old block and place
abbrev pub CountedIsPlaced : Type 0
CountedIsPlaced =
    (p q : Program) → Shape p → (is : IsCountedProgram p q) → (t : Table) × ArePlaced (lower q) t × EachCounted (GroupsHaveShares q t) 0 p.funcs q.funcs is.funcs

-- wherever a run stands at the first line of a group, its frame owns what the registers own at the old block and place
abbrev pub GroupsOwn : Program → ℕ → (f g : Func) → IsCountedFunc f g → Type 0
GroupsOwn q n f g c =
    (b : ℕ) (k : Block) → slice_get f.blocks b ≡ Some k → MetAt f b 0 → (h : NewBlock q f g c b k) × ((i : ℕ) → i ≤ length h.front → (turns : ℕ) (items : Items) (steps : ℕ) (s : MachineState) → Reaches (lower q) steps (start (lower q) turns items) s → s.top.func ≡ n → s.top.place ≡ group_place h i → (cell : ℕ) → times s.top.ledger cell ≡ total (owned f c.tables b i) s.top.vars cell)

-- In each run of the C text of a program with its counts, in front of each group the frame that runs owns exactly what its registers
-- hold that are counted, read again and not only lent.
abbrev pub LedgersAreOwned : Type 0
LedgersAreOwned =
    (p q : Program) → Shape p → (is : IsCountedProgram p q) → EachCounted (GroupsOwn q) 0 p.funcs q.funcs is.funcs

-- ---- frames that wait
-- a call of a function or of a method
abbrev pub is_call : Op → Bool
is_call (Call r g args) = true
is_call (Virtual r o n args) = true
is_call (TraitCall r o t n args) = true
is_call _ = false

-- The line of a call is the first of its group, and wherever a frame waits in that call it owns what its registers own at the old block
-- and place of the call.
abbrev pub CallersOwn : Program → ℕ → (f g : Func) → IsCountedFunc f g → Type 0
CallersOwn q n f g c =
    (b : ℕ) (k : Block) → slice_get f.blocks b ≡ Some k → MetAt f b 0 → (h : NewBlock q f g c b k) × ((i : ℕ) (o : Op × ℕ) → slice_get h.front i ≡ Some o → is_call o.0 ≡ true → (slice_get (lines_from q 0 g.blocks) (group_place h i) ≡ Some (line_of q o.0)) × ((turns : ℕ) (items : Items) (steps : ℕ) (s : MachineState) → Reaches (lower q) steps (start (lower q) turns items) s → (j : ℕ) (frame : Frame) → slice_get s.below j ≡ Some frame → frame.func ≡ n → frame.place ≡ group_place h i + 1 → (cell : ℕ) → times frame.ledger cell ≡ total (owned f c.tables b i) frame.vars cell))

-- In each run a frame that waits in a call owns exactly what it owned in front of the call.
abbrev pub CallersAreOwned : Type 0
CallersAreOwned =
    (p q : Program) → Shape p → (is : IsCountedProgram p q) → EachCounted (CallersOwn q) 0 p.funcs q.funcs is.funcs

-- ---- registers that are only lent
-- each of them has no cell, or one that an older frame owns
abbrev pub AreHeld : ℕ → (ℕ → Bool) → List Word → List Frame → Type 0
AreHeld size lent words older =
    (r : ℕ) (w : Word) → r < size → lent r ≡ true → slice_get words r ≡ Some w → (cell : ℕ) → times (refs_of w) cell ≤ owned_below older cell

-- wherever a run stands at the first line of a group, and wherever a frame waits in a call that is a group's operation
abbrev pub LentAre : Program → ℕ → (f g : Func) → IsCountedFunc f g → Type 0
LentAre q n f g c =
    (b : ℕ) (k : Block) → slice_get f.blocks b ≡ Some k → MetAt f b 0 → (h : NewBlock q f g c b k) × ((i : ℕ) → i ≤ length h.front → (turns : ℕ) (items : Items) (steps : ℕ) (s : MachineState) → Reaches (lower q) steps (start (lower q) turns items) s → (s.top.func ≡ n → s.top.place ≡ group_place h i → AreHeld (length f.regs) (c.tables.lent b i) s.top.vars s.below) × ((j : ℕ) (frame : Frame) → slice_get s.below j ≡ Some frame → frame.func ≡ n → frame.place ≡ group_place h i + 1 → AreHeld (length f.regs) (c.tables.lent b i) frame.vars (drop (suc j) s.below)))

-- In each run, in front of each group a register that is only lent has no cell, or one that an older frame owns; so it is in a frame that
-- waits in a call.
abbrev pub LentAreHeld : Type 0
LentAreHeld =
    (p q : Program) → Shape p → (is : IsCountedProgram p q) → EachCounted (LentAre q) 0 p.funcs q.funcs is.funcs

-- ---- blocks to which no path leads
-- no run comes to the start of one
abbrev pub NeverEntered : Program → ℕ → (f g : Func) → IsCountedFunc f g → Type 0
NeverEntered q n f g c =
    (b : ℕ) (k : Block) → slice_get f.blocks b ≡ Some k → (MetAt f b 0 → ⊥) → (place : ℕ) × IsLabelled (lines_from q 0 g.blocks) label_of (c.number b) place × ((turns : ℕ) (items : Items) (steps : ℕ) (s : MachineState) → Reaches (lower q) steps (start (lower q) turns items) s → s.top.func ≡ n → s.top.place ≡ place → ⊥)

abbrev pub UnmetAreNeverEntered : Type 0
UnmetAreNeverEntered =
    (p q : Program) → Shape p → (is : IsCountedProgram p q) → EachCounted (NeverEntered q) 0 p.funcs q.funcs is.funcs
