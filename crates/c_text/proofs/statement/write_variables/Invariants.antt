use Rattle.std.proofs.Common.{take, Ok}
use Rattle.std.specs.List.{flat_map}
use Rattle.outside_core.specs.declared.failed.WriteFault.{WriteFault}
use Rattle.c_text.specs.Writing.{Wrote}
use Rattle.c_text.specs.Methods.{next_variable}
use Rattle.c_text.proofs.statement.write_variables.Given as goal

-- those before the place are written
abbrev pub invariant-loop-arg : goal.invariant-loop-arg
invariant-loop-arg g l =
    Wrote {E = WriteFault} (Ok (tt {0})) g.O.Sink.tells (g.O.Sink.faults l.fn.out) (g.O.Sink.faults l.out) (g.O.Sink.taken l.fn.out) (g.O.Sink.taken l.out) (flat_map (next_variable l.vars) (take l.arg-index l.arg-items))
