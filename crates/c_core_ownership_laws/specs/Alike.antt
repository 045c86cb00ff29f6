-- What a checked run and an unchecked one of the same code have in common: all but cells that are gone and ledgers.
use Rattle.std.specs.Prelude.{◌≡◌, ◌⊎◌, ℕ, List, [], ◌∷◌, length, Some}
use Rattle.c_core.specs.declared.fault.Fault.TheVariants as fault
use Rattle.c_core.specs.Cells.{Cells, content_at}
use Rattle.c_core.specs.Ledgers.{Ledger}
use Rattle.c_core.specs.Machine.{Content, Frame, MachineState}
use Rattle.c_core.specs.Step.{MachineEnding, Ended, Faulted, Next, Goes, Ends}

-- frames with these ledgers, and empty ones for the others
abbrev pub with_ledgers : List Frame → List Ledger → List Frame
with_ledgers [] ls = []
with_ledgers (f ∷ fs) [] = record f { ledger = [] } ∷ with_ledgers fs []
with_ledgers (f ∷ fs) (l ∷ ls) = record f { ledger = l } ∷ with_ledgers fs ls

-- a state with other cells and other ledgers: its frames with their functions, places, variables and targets, its globals, the
-- number of the pending exception's cell, its output, its input, its turns and the list of what was made are the same
abbrev pub loose : MachineState → Cells Content → Ledger → List Ledger → MachineState
loose s cells l ls =
    record s { cells = cells; top = record s.top { ledger = l }; below = with_ledgers s.below ls }

-- as many cells, and each one that is live in the first is live in the second with the same content, word by word
pub record HoldsMore (g h : Cells Content) : Type 0 where
  pub size : length g ≡ length h
  pub more : (c : ℕ) (v : Content) → content_at g c ≡ Some v → content_at h c ≡ Some v

-- a state of a checked run and one of an unchecked run
pub record IsLike (s u : MachineState) : Type 0 where
  pub cells : Cells Content
  pub ledger : Ledger
  pub ledgers : List Ledger
  pub is : u ≡ loose s cells ledger ledgers
  pub more : HoldsMore s.cells cells

-- a fault of ownership
abbrev pub IsOwnership : MachineEnding → Type 0
IsOwnership (Ended e) = ⊥
IsOwnership (Faulted fault.Kind) = ⊥
IsOwnership (Faulted fault.Dead) = Unit {0}
IsOwnership (Faulted fault.NotOwned) = Unit {0}
IsOwnership (Faulted fault.Leak) = Unit {0}

-- what a checked and an unchecked step lead to: the same, or the checked one ends in a fault of ownership
abbrev pub Alike : Next → Next → Type 0
Alike (Goes s) (Goes u) = IsLike s u
Alike (Ends e s) (Ends d u) = ((e ≡ d) × IsLike s u) ⊎ IsOwnership e
Alike (Ends e s) (Goes u) = IsOwnership e
Alike (Goes s) (Ends d u) = ⊥
