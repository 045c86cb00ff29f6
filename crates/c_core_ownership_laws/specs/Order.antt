-- When a function and a code keep their references in order.
use Rattle.std.specs.Prelude.{◌≡◌, ◌<◌, ℕ, zero, suc, ◌+◌, false, List, [], ◌∷◌, Option, Some, slice_get}
use Rattle.std.specs.Option.{option_and_then}
use Rattle.c_core.specs.declared.code.Line.{Line}
use Rattle.c_core.specs.declared.code.CFunc.{CFunc}
use Rattle.c_core.specs.declared.code.Code.{Code}
use Rattle.c_core.specs.Functions.{label_places}
use Rattle.c_core_ownership_laws.specs.Shares.{Shares, Within, LineChecks, Checks}

-- nothing is asked of the shares behind the last line
abbrev pub Any : Shares → Type 0
Any σ = Unit {0}

-- the lines from a place on
abbrev pub from : ℕ → List Line → List Line
from zero ls = ls
from (suc p) [] = []
from (suc p) (l ∷ ls) = from p ls

-- A function is in order: its first line from shares that own nothing through a parameter and know of none that it is empty, and the lines from each label on from
-- each shares with which the label is entered. The other variables begin with an error value, so they may have any shares.
pub record IsInOrder (code : Code) (Enters : ℕ → Shares → Type 0) (g : CFunc) : Type 0 where
  pub entry : Shares
  pub is_entry : (r : ℕ) → r < g.params → entry.owns r ≡ 0
  pub is_filled : (r : ℕ) → r < g.params → entry.empty r ≡ false
  pub begins : Checks code g Enters Any entry g.lines
  pub enters : (n q : ℕ) (σ : Shares) → Enters n σ → slice_get (label_places g.lines) n ≡ Some q → Checks code g Enters Any σ (from q g.lines)

-- A table says of a function and a number with which shares a run comes there, if it says anything. The number is that of a label,
-- or a place.
abbrev pub Table : Type 0
Table = ℕ → ℕ → Option Shares

abbrev pub Entered : Table → ℕ → ℕ → Shares → Type 0
Entered t f n σ = t f n ≡ Some σ

-- each function of the code is in order by the table
abbrev pub AreInOrder : Code → Table → Type 0
AreInOrder code t = (f : ℕ) (g : CFunc) → slice_get code.funcs f ≡ Some g → IsInOrder code (Entered t f) g

-- ---- shares at every place
-- where the table speaks of places, a label is entered with the shares of its place
abbrev pub labels_of : Code → Table → Table
labels_of code t f n =
    option_and_then (t f) (option_and_then (λ g. slice_get (label_places g.lines) n) (slice_get code.funcs f))

-- A function whose places have the shares of a table: the first place those with which it begins, and each line leads from those of
-- its place to those of the next one.
pub record IsPlaced (code : Code) (t : Table) (f : ℕ) (g : CFunc) : Type 0 where
  pub entry : Shares
  pub is_entry : (r : ℕ) → r < g.params → entry.owns r ≡ 0
  pub is_filled : (r : ℕ) → r < g.params → entry.empty r ≡ false
  pub begins : t f 0 ≡ Some entry
  pub line : (p : ℕ) (l : Line) (σ : Shares) → t f p ≡ Some σ → slice_get g.lines p ≡ Some l → LineChecks code g (Entered (labels_of code t) f) σ l (λ τ. (ρ : Shares) × (t f (p + 1) ≡ Some ρ) × Within τ ρ)

abbrev pub ArePlaced : Code → Table → Type 0
ArePlaced code t = (f : ℕ) (g : CFunc) → slice_get code.funcs f ≡ Some g → IsPlaced code t f g
