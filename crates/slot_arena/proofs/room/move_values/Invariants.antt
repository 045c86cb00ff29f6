use Rattle.std.proofs.Common.{◌≡◌, length, take}
use Rattle.slot_arena.specs.Laid.{laid, values_in}
use Rattle.slot_arena.proofs.Laid.{emptied}
use Rattle.slot_arena.proofs.room.move_values.Given as goal

abbrev pub invariant-loop-place : goal.invariant-loop-place
invariant-loop-place g l =
    (l.from.places ≡ emptied l.place l.fn.from.places) × (l.from.at ≡ l.fn.from.at) × (l.to.at ≡ l.fn.to.at)
    × (l.to.places ≡ laid (take l.place (values_in l.fn.from.places)) (length l.fn.to.places))
