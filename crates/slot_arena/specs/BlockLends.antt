-- What a block ends as, where a `&mut` to one of its values is returned.
use Rattle.std.specs.Prelude.{ℕ, List, Option, Some, slice_set}
use Rattle.std.specs.Borrow.{Fml, RattleType, MutBor, Lends}
use Rattle.slot_arena.specs.declared.block.Block.{Block}
use Rattle.slot_arena.specs.contracts.block.Block.{the_row}

-- a block with other places
abbrev pub with_places : {X : Type 0} → Block X → List (Option X) → Block X
with_places b places = record { at = b.at; places = places }

-- once the borrow ends, the place holds the last value written through it
abbrev pub LendsPlace : (R : RattleType) → MutBor (Block R.Denot) → ℕ → MutBor R.Denot → Fml
LendsPlace R b place r = Lends (the_row R) R b r (λ x. with_places b.now (slice_set b.now.places place (Some x)))
