-- The places of memory for slots that may be missing. No public clause cites this module.
use Rattle.std.specs.Prelude.{ℕ, [], slice_set}
use Rattle.slot_arena.specs.declared.slot.Slot.{Slot}
use Rattle.slot_arena.specs.declared.slots.SlotMemory.{SlotMemory}
use Rattle.slot_arena.specs.declared.slots.SlotMemory.TheVariants.{Missing, Present}
use Rattle.slot_arena.specs.Places.{Places}

module _ {T : Type 0} where
  abbrev pub places_in : SlotMemory T → Places (Slot T)
  places_in Missing = record { slots = []; capacity = 0 }
  places_in (Present places) = places

  -- the same memory with another slot at a place
  abbrev pub with_slot : SlotMemory T → ℕ → Slot T → SlotMemory T
  with_slot Missing place slot = Missing
  with_slot (Present places) place slot = Present (record places { slots = slice_set places.slots place slot })
