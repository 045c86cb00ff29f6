use Rattle.std.proofs.Common.{◌≡◌, ◌++◌, drop}
use Rattle.slot_arena.proofs.Keys.{live_keys}
use Rattle.slot_arena.proofs.arena.Arena.keys.Given as goal

abbrev pub invariant-loop-slot : goal.invariant-loop-slot
invariant-loop-slot g l =
    l.keys.items ++ live_keys l.slot (drop l.slot l.self-inside.slots.slots) ≡ live_keys 0 l.self-inside.slots.slots
