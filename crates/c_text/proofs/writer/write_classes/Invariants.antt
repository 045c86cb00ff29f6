use Rattle.std.proofs.Common.{take, Ok}
use Rattle.std.specs.List.{flat_map}
use Rattle.outside_core.specs.declared.failed.WriteFault.{WriteFault}
use Rattle.c_text.specs.Writing.{Wrote}
use Rattle.c_text.specs.Classes.{class_written}
use Rattle.c_text.proofs.writer.write_classes.Given as goal

-- those before the place are written
abbrev pub invariant-loop-class : goal.invariant-loop-class
invariant-loop-class g l =
    Wrote {E = WriteFault} (Ok (tt {0})) g.O.Sink.tells (g.O.Sink.faults l.fn.out) (g.O.Sink.faults l.out) (g.O.Sink.taken l.fn.out) (g.O.Sink.taken l.out) (flat_map class_written (take l.class-index l.class-items))
