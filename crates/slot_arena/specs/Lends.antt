-- What an arena ends as, where a `&mut` to one of its values is returned.
use Rattle.std.specs.Prelude.{ℕ, Option, slice_set}
use Rattle.std.specs.Borrow.{Lends, LendsIf, Fml, RattleType, MutBor}
use Rattle.slot_arena.specs.declared.key.Key.{Key}
use Rattle.slot_arena.specs.declared.slot.Slot.{Slot}
use Rattle.slot_arena.specs.Contents.{Contents, with_value}
use Rattle.slot_arena.specs.Places.{Places}
use Rattle.slot_arena.specs.SlotMemory.{with_slot}
use Rattle.slot_arena.specs.declared.slots.SlotMemory.{SlotMemory}
use Rattle.slot_arena.specs.Slot.{with_stored}
use Rattle.slot_arena.specs.contracts.slot.Slot.{the_row as slot_row}
use Rattle.slot_arena.specs.contracts.slots.Slots.{the_row as slots_row}
use Rattle.slot_arena.specs.contracts.slots.SlotMemory.{the_row as memory_row}
use Rattle.slot_arena.specs.contracts.arena.Arena.{the_row as arena_row}

module _ (T : RattleType) where
  -- once the borrow ends, the place holds the last slot written through it
  abbrev pub LendsSlot : MutBor (Places (Slot T.Denot)) → ℕ → MutBor (Slot T.Denot) → Fml
  LendsSlot s place r = Lends (slots_row T) (slot_row T) s r (λ slot. record s.now { slots = slice_set s.now.slots place slot })

  -- the same of memory that may be missing
  abbrev pub LendsMemory : MutBor (SlotMemory T.Denot) → ℕ → MutBor (Slot T.Denot) → Fml
  LendsMemory m place r = Lends (memory_row T) (slot_row T) m r (with_slot m.now place)

  -- once the borrow ends, the slot has the last value written through it
  abbrev pub LendsStored : MutBor (Slot T.Denot) → MutBor T.Denot → Fml
  LendsStored s r = Lends (slot_row T) T s r (with_stored s.now)

  -- once the borrow ends, the key has the last value written through it
  abbrev pub LendsPresent : MutBor (Contents T.Denot) → Key → MutBor T.Denot → Fml
  LendsPresent a key r = Lends (arena_row T) T a r (with_value a.now key)

  -- the same where the key is in the map, and otherwise the arena stays as it is
  abbrev pub LendsValue : MutBor (Contents T.Denot) → Key → Option (MutBor T.Denot) → Fml
  LendsValue a key r = LendsIf (arena_row T) T a r (with_value a.now key) a.now
