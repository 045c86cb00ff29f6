-- What one slot holds. No public clause cites this module.
use Rattle.std.specs.Prelude.{ℕ, ◌==◌, if◌then◌else◌, Option, Some, None}
use Rattle.slot_arena.specs.declared.slot.Slot.{Slot}
use Rattle.slot_arena.specs.declared.slot.Slot.TheVariants.{Free, Full}
use Rattle.slot_arena.specs.declared.slot.Standing.TheVariants.{Live, Condemned}

module _ {T : Type 0} where
  -- the serial of a slot whose value is in the map
  abbrev pub live_serial : Slot T → Option ℕ
  live_serial (Free next) = None
  live_serial (Full Live serial value) = Some serial
  live_serial (Full (Condemned next) serial value) = None

  -- the value of a slot that has it in the map under this serial
  abbrev pub value_under : ℕ → Slot T → Option T
  value_under wanted (Free next) = None
  value_under wanted (Full Live serial value) = if serial == wanted then Some value else None
  value_under wanted (Full (Condemned next) serial value) = None

  -- the value of a slot that is not free
  abbrev pub stored_value : Slot T → Option T
  stored_value (Free next) = None
  stored_value (Full standing serial value) = Some value

  -- a slot that is not free, with another value
  abbrev pub with_stored : Slot T → T → Slot T
  with_stored (Free next) value = Free next
  with_stored (Full standing serial old) value = Full standing serial value

  -- the serial and the value of a condemned slot, and the condemned slot after it
  abbrev pub condemned_part : Slot T → Option (ℕ × T × Option ℕ)
  condemned_part (Free next) = None
  condemned_part (Full Live serial value) = None
  condemned_part (Full (Condemned next) serial value) = Some (serial, value, next)

  -- the free slot after a free slot
  abbrev pub free_link : Slot T → Option (Option ℕ)
  free_link (Free next) = Some next
  free_link (Full standing serial value) = None

  -- the condemned slot after a condemned slot
  abbrev pub condemned_link : Slot T → Option (Option ℕ)
  condemned_link (Free next) = None
  condemned_link (Full Live serial value) = None
  condemned_link (Full (Condemned next) serial value) = Some next

  -- the slot once its value is condemned, and names the condemned slot after it
  abbrev pub condemned_slot : Option ℕ → Slot T → Slot T
  condemned_slot next (Free link) = Free link
  condemned_slot next (Full standing serial value) = Full (Condemned next) serial value
