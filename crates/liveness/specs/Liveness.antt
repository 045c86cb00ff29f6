-- What a table says, and when it says it of a function.
use Rattle.std.specs.Prelude.{◌≡◌, ◌<◌, ℕ, Bool, true, false, cond, min, List, length, Some, slice_get, ◌↔◌}
use Rattle.std.specs.List.{list_any}
use Rattle.ir_core.specs.declared.code.Func.{Func}
use Rattle.ir_core.specs.Items.{Item, item_in}
use Rattle.liveness.specs.declared.live_table.LiveTable.{LiveTable}
use Rattle.liveness.specs.declared.borrow_table.BorrowTable.{BorrowTable}
use Rattle.liveness.specs.Paths.{is_among, LiveAt, BorrowedAt}
use Rattle.liveness.specs.declared.step.Steps.{Steps}
use Rattle.liveness.specs.Rising.{has}
use Rattle.liveness.specs.Places.{lends_some}
use Rattle.liveness.specs.Rows.{IsOwnedRow}
use Rattle.liveness.specs.Tables.{live_by, is_told, borrowed_by}
use Rattle.liveness.specs.Spread.{IsKnown}
use Rattle.liveness.specs.Apart.{at_home, row_at}

-- whether a table says that a register is read again, at a block, a place and the register's number
abbrev pub says_live : LiveTable → ℕ → ℕ → ℕ → Bool
says_live table b p r = at_home (live_by table.touches table.rows) false (slice_get table.homes b) p r

-- at each place of the function it says of each register exactly whether some path reads it before it writes it
abbrev pub IsLiveTable : Func → LiveTable → Type 0
IsLiveTable f table =
    (b p r : ℕ) (i : Item) → item_in f.blocks b p ≡ Some i → r < length f.regs → (says_live table b p r ≡ true) ↔ LiveAt f r b p

-- the registers that a table says to be read again at the start of a block
abbrev pub starts_of : LiveTable → ℕ → List ℕ
starts_of table b = row_at table.rows (slice_get table.homes b)

-- of each block exactly those that some path from its start reads before it writes them
abbrev pub AreStarts : Func → LiveTable → Type 0
AreStarts f table = (b r : ℕ) → r < length f.regs → (is_among (starts_of table b) r ≡ true) ↔ LiveAt f r b 0

-- whether a table says that a register is only lent
abbrev pub says_borrowed : BorrowTable → ℕ → ℕ → ℕ → Bool
says_borrowed table b p r = at_home (borrowed_by table) true (slice_get table.homes b) p r

-- at each place of the function it says of each register exactly whether it is only lent there
abbrev pub IsBorrowTable : Func → BorrowTable → Type 0
IsBorrowTable f table =
    (b p r : ℕ) (i : Item) → item_in f.blocks b p ≡ Some i → r < length f.regs → (says_borrowed table b p r ≡ true) ↔ BorrowedAt f r b p

-- how many registers a table of pieces knows the writes of: all of them where some operation lends, else the parameters
abbrev pub known_count : List Steps → ℕ → ℕ → ℕ
known_count blocks params regs = cond (list_any lends_some blocks) regs (min params regs)

-- what it keeps of pieces and of so many parameters: which places write registers, where paths come, and where those are owned that have
-- a row
pub record AreMarked (blocks : List Steps) (params count : ℕ) (table : BorrowTable) : Type 0 where
  pub known : IsKnown blocks params count table.known
  pub owned : (r : ℕ) → r < count → is_told table.known r ≡ true → IsOwnedRow blocks params r (has table.rows r)
