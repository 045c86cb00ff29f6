use Rattle.std.proofs.Common.{◌≡◌, ◌≤◌, take, Ok}
use Rattle.outside_core.specs.declared.failed.WriteFault.{WriteFault}
use Rattle.c_text.specs.Labels.{labels_behind}
use Rattle.c_text.specs.Writing.{Wrote}
use Rattle.c_text.specs.Written.{lines_written}
use Rattle.c_text.proofs.writer.write_lines.Given as goal

-- the lines before the place are written
abbrev pub invariant-loop-line : goal.invariant-loop-line
invariant-loop-line g l = record {
  written : Wrote {E = WriteFault} (Ok (tt {0})) g.O.Sink.tells (g.O.Sink.faults l.fn.out) (g.O.Sink.faults l.out) (g.O.Sink.taken l.fn.out) (g.O.Sink.taken l.out) (lines_written l.vars 0 (take l.line-index l.line-items));
  counted : l.labels ≡ labels_behind 0 (take l.line-index l.line-items);
  few : l.labels ≤ l.line-index;
}
