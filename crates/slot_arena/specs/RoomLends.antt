-- What a room ends as, where a `&mut` to one of its slots is returned.
use Rattle.std.specs.Prelude.{ℕ, slice_set}
use Rattle.std.specs.Borrow.{Fml, RattleType, MutBor, Lends}
use Rattle.slot_arena.specs.Places.{Places}
use Rattle.slot_arena.specs.contracts.room.Room.{the_row}

-- once the borrow ends, the place holds the last slot written through it
abbrev pub LendsAt : (R : RattleType) → MutBor (Places R.Denot) → ℕ → MutBor R.Denot → Fml
LendsAt R room place r = Lends (the_row R) R room r (λ slot. record room.now { slots = slice_set room.now.slots place slot })
