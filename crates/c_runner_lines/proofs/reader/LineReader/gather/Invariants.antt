use Rattle.std.proofs.Common.{◌≡◌, IsTrue}
use Rattle.c_runner_lines.specs.Reading.{is_ready, Takes, EndIsSeen}
use Rattle.c_runner_lines.specs.Steps.{HoldsMore, IsSearched, to_read}
use Rattle.c_runner_lines.proofs.reader.LineReader.gather.Given as goal

-- no read was refused, what was taken is held, and where the reader could answer at first nothing was done
abbrev pub invariant-reading : goal.invariant-reading
invariant-reading g l = record {
  calm : g.I.Source.faults l.input ≡ g.I.Source.faults l.fn.input;
  searched : IsSearched l.self l.end;
  takes : Takes l.fn.self g.I.Source.tells (g.I.Source.left l.fn.input) (g.I.Source.left l.input) (HoldsMore l.fn.self l.self);
  quiet : IsTrue (is_ready l.fn.self) → (l.self ≡ l.fn.self) × (l.input ≡ l.fn.input);
  end : IsTrue g.I.Source.tells → EndIsSeen l.fn.self (g.I.Source.left l.fn.input) → EndIsSeen l.self (g.I.Source.left l.input);
}

abbrev pub decreases-reading : goal.decreases-reading
decreases-reading g l = to_read l.self
