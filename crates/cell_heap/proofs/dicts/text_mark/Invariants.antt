use Rattle.std.proofs.Common.{◌≡◌, drop}
use Rattle.cell_heap.specs.Marks.{text_mark}
use Rattle.cell_heap.proofs.dicts.text_mark.Given as goal

-- the bytes from the place on are still to come
abbrev pub invariant-loop-byte : goal.invariant-loop-byte
invariant-loop-byte l = text_mark l.mark (drop l.byte-index l.bytes) ≡ text_mark 1 l.bytes
