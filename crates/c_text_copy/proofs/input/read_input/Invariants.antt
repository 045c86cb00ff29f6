use Rattle.std.proofs.Common.{◌≡◌, ◌+◌, ◌++◌, ◌-◌, ◌≤◌, length, vec_len, IsTrue}
use Rattle.c_text_copy.proofs.input.read_input.Given as goal

-- the bytes so far and those that are left are those that were left at first, and no read was refused
abbrev pub invariant-loop-piece : goal.invariant-loop-piece
invariant-loop-piece g l = record {
  room : length l.piece ≡ 4096;
  within : vec_len l.bytes ≤ l.limit + 1;
  calm : g.I.Source.faults l.input ≡ g.I.Source.faults l.fn.input;
  split : IsTrue g.I.Source.tells → g.I.Source.left l.fn.input ≡ l.bytes.items ++ g.I.Source.left l.input;
}

abbrev pub decreases-loop-piece : goal.decreases-loop-piece
decreases-loop-piece g l = l.limit + 1 - vec_len l.bytes
