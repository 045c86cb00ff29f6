-- How many places hold a cell.
use Rattle.std.specs.Prelude.{ℕ, ◌+◌, List, [], ◌∷◌, Option, Some, None}
use Rattle.c_core.specs.Cells.{times}
use Rattle.c_core.specs.Release.{uses}
use Rattle.c_core.specs.Machine.{refs_in, set_refs, Frame, MachineState}

abbrev pub pending_refs : Option ℕ → List ℕ
pending_refs None = []
pending_refs (Some c) = c ∷ []

-- how often a cell is held: by the globals, by the pending exception, and by what live cells contain
abbrev pub holders : MachineState → ℕ → ℕ
holders s c = times (set_refs s.globals) c + (times (pending_refs s.pending) c + uses refs_in s.cells c)

abbrev pub owned_below : List Frame → ℕ → ℕ
owned_below [] c = 0
owned_below (f ∷ fs) c = times f.ledger c + owned_below fs c

-- how often all ledgers hold a cell
abbrev pub owned : MachineState → ℕ → ℕ
owned s c = times s.top.ledger c + owned_below s.below c
