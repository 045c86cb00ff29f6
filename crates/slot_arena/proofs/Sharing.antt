-- A borrow of a block becomes a `&`, which reaches each value. Assumes `Logic`.
use mathlib.Core.List.{List, [], ◌∷◌}
use seplogic.Ra.Ura.{Ura}
use base.Fml.{Lft, Incl, ftrue, ffalse}
use types.Logic.{Logic}
use denote.RattleType.{RattleType, RowLaws}
use denote.RawPtr.{Ptr, block_ptr, null_ptr}
use denote.Param.Laws.{Laws}
use denote.Shares.{Shares-less}
use denote.Sharing.{ShrLaws, said}
use denote.SharingLaws.{nothing_shr_laws, said_shr_laws, beside_shr_laws}
use denote.Struct.Lending.{Lends, Lends-false, Lends-said, Lends-nothing, Lends-both}
use Rattle.std.specs.Prelude.{ℕ, ◌+◌, Option, Some, None}
use Rattle.std.specs.Mem.{type_size}
use Rattle.slot_arena.specs.Memory.{place_owns, places_own, fits, block_owns, place_lends, places_lend, block_lends}

module _ (R : RattleType) (laws : RowLaws R) where
  place_laws : (b o : ℕ) (place : Option R.Denot) → ShrLaws (place_lends R b o place)
  place_laws b o None = nothing_shr_laws
  place_laws b o (Some x) = laws x b o

  places_laws : (b o : ℕ) (places : List (Option R.Denot)) → ShrLaws (places_lend R b o places)
  places_laws b o [] = nothing_shr_laws
  places_laws b o (place ∷ rest) =
      let next : ℕ = o + type_size R in
      beside_shr_laws (place_lends R b o place) (places_lend R b next rest) (place_laws b o place) (places_laws b next rest)

  -- what a `&` to a block reaches may be copied and shortened
  pub block_laws : (p : Ptr) (places : List (Option R.Denot)) → ShrLaws (block_lends R p places)
  block_laws null_ptr places = said_shr_laws ffalse tt
  block_laws (block_ptr b o) places =
      beside_shr_laws (said (fits R places)) (places_lend R b o places) (said_shr_laws (fits R places) tt) (places_laws b o places)

module _ {M : Type 1} {𝓤 : Ura M} (𝓛 : Logic 𝓤) (R : RattleType) (laws : Laws R) (l : Lft) (within : Incl l R.lives) where
  Lends-place : (b o : ℕ) (place : Option R.Denot) → Lends 𝓛 (place_owns R b o place) (place_lends R b o place) l
  Lends-place b o None = Lends-nothing 𝓛 (place_owns R b o None) l
  Lends-place b o (Some x) = λ κ fine. Shares-less 𝓛 R R.lives l within (laws.shares 𝓛) x κ fine b o

  Lends-places : (b o : ℕ) (places : List (Option R.Denot)) → Lends 𝓛 (places_own R b o places) (places_lend R b o places) l
  Lends-places b o [] = Lends-nothing 𝓛 ftrue l
  Lends-places b o (place ∷ rest) =
      let next : ℕ = o + type_size R in
      Lends-both 𝓛 (place_owns R b o place) (places_own R b next rest) (place_lends R b o place) (places_lend R b next rest) l (Lends-place b o place) (Lends-places b next rest)

  -- a borrow of what a block owns gives what a `&` to it reaches
  pub Lends-block : (p : Ptr) (places : List (Option R.Denot)) → Lends 𝓛 (block_owns R p places) (block_lends R p places) l
  Lends-block null_ptr places = Lends-false 𝓛 (said ffalse) l
  Lends-block (block_ptr b o) places =
      Lends-both 𝓛 (fits R places) (places_own R b o places) (said (fits R places)) (places_lend R b o places) l (Lends-said 𝓛 (fits R places) tt l) (Lends-places b o places)
