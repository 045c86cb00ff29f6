use Rattle.std.proofs.Common.{take, Ok}
use Rattle.std.specs.List.{flat_map}
use Rattle.outside_core.specs.declared.failed.WriteFault.{WriteFault}
use Rattle.c_text.specs.Writing.{Wrote}
use Rattle.c_text.specs.Written.{other_written}
use Rattle.c_text.proofs.writer.write_others.Given as goal

-- those before the place are written
abbrev pub invariant-loop-function : goal.invariant-loop-function
invariant-loop-function g l =
    Wrote {E = WriteFault} (Ok (tt {0})) g.O.Sink.tells (g.O.Sink.faults l.fn.out) (g.O.Sink.faults l.out) (g.O.Sink.taken l.fn.out) (g.O.Sink.taken l.out) (flat_map other_written (take l.function-index l.functions))
