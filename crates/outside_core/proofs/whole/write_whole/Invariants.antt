use Rattle.std.proofs.Common.{◌≡◌, ◌++◌, IsTrue, ◌-◌, ◌≤◌, length, take}
use Rattle.outside_core.proofs.whole.write_whole.Given as goal

-- the bytes before the place are taken, and no call was refused
abbrev pub invariant-loop-done : goal.invariant-loop-done
invariant-loop-done g l = record {
  within : l.done ≤ length l.bytes;
  calm : g.S.Sink.faults l.sink ≡ g.S.Sink.faults l.fn.sink;
  taken : IsTrue g.S.Sink.tells → g.S.Sink.taken l.sink ≡ g.S.Sink.taken l.fn.sink ++ take l.done l.bytes;
}

abbrev pub decreases-loop-done : goal.decreases-loop-done
decreases-loop-done g l = length l.bytes - l.done
