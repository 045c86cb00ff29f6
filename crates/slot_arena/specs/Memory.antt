-- What the memory of slots owns and lends, at slots of the row R. No public clause cites this module.
use Rattle.std.specs.Prelude.{ℕ, ◌+◌, ◌*◌, ◌^◌, List, [], ◌∷◌, length, Option, Some, None}
use Rattle.std.specs.Mem.{type_size}
use base.Fraction.{full_share}
use base.Fml.{Lft, Fml, ftrue, ffalse, fsep, flt, froom}
use mir.Syntax.{Ty, ty_array}
use mir.Raw.{raw}
use denote.RattleType.{RattleType}
use denote.Memory.{lone, part_at, shared_of}
use denote.Sharing.{nothing, said, beside}
use denote.RawPtr.{Ptr, block_ptr, null_ptr}

module _ (R : RattleType) where
  -- a place at an offset of an allocation: its value, or room for one
  abbrev pub place_owns : ℕ → ℕ → Option R.Denot → Fml
  place_owns b o None = froom (raw (lone R.mir)) b o
  place_owns b o (Some x) = part_at R full_share x b o

  -- places side by side
  abbrev pub places_own : ℕ → ℕ → List (Option R.Denot) → Fml
  places_own b o [] = ftrue
  places_own b o (place ∷ rest) = fsep (place_owns b o place) (places_own b (o + type_size R) rest)

  -- the places take fewer than 2 ^ 63 bytes
  abbrev pub fits : List (Option R.Denot) → Fml
  fits places = flt (length places * type_size R) (2 ^ 63)

  abbrev pub block_owns : Ptr → List (Option R.Denot) → Fml
  block_owns null_ptr places = ffalse
  block_owns (block_ptr b o) places = fsep (fits places) (places_own b o places)

  -- what a reference to the places reaches: each value
  abbrev pub place_lends : ℕ → ℕ → Option R.Denot → Lft → Fml
  place_lends b o None = nothing
  place_lends b o (Some x) = shared_of R x b o

  abbrev pub places_lend : ℕ → ℕ → List (Option R.Denot) → Lft → Fml
  places_lend b o [] = nothing
  places_lend b o (place ∷ rest) = beside (place_lends b o place) (places_lend b (o + type_size R) rest)

  abbrev pub block_lends : Ptr → List (Option R.Denot) → Lft → Fml
  block_lends null_ptr places = said ffalse
  block_lends (block_ptr b o) places = beside (said (fits places)) (places_lend b o places)

  -- what the allocator asks for to take the memory of so many places back
  abbrev pub deed_owns : (Ty → Ptr → Fml) → Ptr → ℕ → Fml
  deed_owns token p count = token (raw (ty_array (lone R.mir) count)) p
