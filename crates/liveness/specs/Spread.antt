-- Where a register comes to be owned at the start of a block: from blocks that write it last by an operation that does not only lend,
-- over edges, and past blocks that do not write it.
use Rattle.std.specs.Prelude.{◌≡◌, ◌<◌, ◌⊎◌, ℕ, Bool, true, false, ◌&&◌, nat_lt, List, [], length, Option, Some, None, map, slice_get, get_or, ◌↔◌}
use Rattle.liveness.specs.declared.step.Steps.{Steps}
use Rattle.liveness.specs.declared.places.Span.{Span}
use Rattle.liveness.specs.declared.borrow_table.Known.{Known}
use Rattle.liveness.specs.Paths.{is_among}
use Rattle.liveness.specs.Rising.{has, IsInverse}
use Rattle.liveness.specs.Places.{lends_in, places, lets_by, AreTouches}
use Rattle.liveness.specs.Rows.{AreBelow, IsMetRow}
use Rattle.liveness.specs.Tables.{owned_in, is_told}

-- whether the last write of a register in a block does not only lend
abbrev pub gives_in : List ℕ → List ℕ → Option Span → Bool
gives_in writes lends None = false
gives_in writes lends (Some k) = owned_in writes lends false (Some k) k.behind

-- and a path comes there
abbrev pub gives : Known → ℕ → ℕ → Bool
gives known r b =
    get_or known.met b false && gives_in (get_or known.touches.writes r []) (get_or known.lends r []) (slice_get known.touches.spans b)

-- the blocks to begin with: the entry where the register is no parameter, and where the edges of those of some blocks end that give it
pub record AreTried (known : Known) (edges : List (List ℕ)) (r : ℕ) (seen tried : List ℕ) : Type 0 where
  pub entry : nat_lt r known.params ≡ false → is_among tried 0 ≡ true
  pub has_all : (b t : ℕ) → is_among seen b ≡ true → gives known r b ≡ true → is_among (get_or edges b []) t ≡ true → is_among tried t ≡ true
  pub no_other : (t : ℕ) → is_among tried t ≡ true → ((nat_lt r known.params ≡ false) × (t ≡ 0)) ⊎ ((b : ℕ) × (is_among seen b ≡ true) × (gives known r b ≡ true) × (is_among (get_or edges b []) t ≡ true))

pub data Spread (known : Known) (writers : List ℕ) (edges : List (List ℕ)) (r : ℕ) : ℕ → Type 0 where
  enters : nat_lt r known.params ≡ false → Spread known writers edges r 0
  starts : (b t : ℕ) → is_among writers b ≡ true → gives known r b ≡ true → is_among (get_or edges b []) t ≡ true → Spread known writers edges r t
  goes_further : (b t : ℕ) → Spread known writers edges r b → lets_by known.touches r b ≡ true → is_among (get_or edges b []) t ≡ true → Spread known writers edges r t

-- the rows have exactly the registers below n that have a row and come there
abbrev pub AreSpread : Known → List (List ℕ) → List (List ℕ) → ℕ → List (List ℕ) → Type 0
AreSpread known writers edges n rows =
    AreBelow n rows × ((r t : ℕ) → r < n → is_told known r ≡ true → t < length rows → (has rows r t ≡ true) ↔ Spread known (get_or writers r []) edges r t)

-- what is known of blocks, with so many parameters, for the registers below a count
pub record IsKnown (blocks : List Steps) (params count : ℕ) (known : Known) : Type 0 where
  pub params_are : known.params ≡ params
  pub touches : AreTouches blocks count known.touches
  pub lends_size : length known.lends ≡ count
  pub lends : IsInverse (map lends_in (places blocks)) known.lends
  pub met : IsMetRow blocks known.met
