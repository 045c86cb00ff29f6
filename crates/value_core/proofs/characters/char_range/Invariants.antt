use Rattle.std.proofs.Common.{◌≡◌, ◌+◌, length}
use Rattle.value_core.specs.Characters.{bytes_before}
use Rattle.value_core.proofs.characters.char_range.Given as goal

abbrev pub invariant-loop-c : goal.invariant-loop-c
invariant-loop-c l = (l.left + length l.yielded ≡ l.fn.place) × (l.from ≡ bytes_before l.s (length l.yielded)) × (l.end ≡ length l.s)
