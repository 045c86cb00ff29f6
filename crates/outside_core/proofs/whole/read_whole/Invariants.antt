use Rattle.std.proofs.Common.{◌≡◌, ◌+◌, ◌++◌, ◌-◌, ◌≤◌, length, vec_len, IsTrue}
use Rattle.outside_core.proofs.whole.read_whole.Given as goal

-- the bytes so far and those that are left are those that were left at first, and no read was refused
abbrev pub invariant-loop-piece : goal.invariant-loop-piece
invariant-loop-piece g l = record {
  room : length l.piece ≡ 4096;
  within : vec_len l.bytes ≤ l.limit + 1;
  calm : g.F.Files.faults l.files ≡ g.F.Files.faults l.fn.files;
  stays_open : IsTrue (g.F.Files.is_open l.files);
  split : IsTrue g.F.Files.tells → g.F.Files.left l.fn.files ≡ l.bytes.items ++ g.F.Files.left l.files;
  absent : g.F.Files.absent_opens l.files ≡ g.F.Files.absent_opens l.fn.files;
  kept : g.F.Files.content l.files ≡ g.F.Files.content l.fn.files;
}

abbrev pub decreases-loop-piece : goal.decreases-loop-piece
decreases-loop-piece g l = l.limit + 1 - vec_len l.bytes
