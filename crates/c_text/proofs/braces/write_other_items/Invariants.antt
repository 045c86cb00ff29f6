use Rattle.std.proofs.Common.{take, Ok}
use Rattle.std.specs.List.{flat_map}
use Rattle.outside_core.specs.declared.failed.WriteFault.{WriteFault}
use Rattle.c_text.specs.Braces.{next_item}
use Rattle.c_text.specs.Writing.{Wrote}
use Rattle.c_text.proofs.braces.write_other_items.Given as goal

-- those before the place are written
abbrev pub invariant-loop-other : goal.invariant-loop-other
invariant-loop-other g l =
    Wrote {E = WriteFault} (Ok (tt {0})) g.O.Sink.tells (g.O.Sink.faults l.fn.out) (g.O.Sink.faults l.out) (g.O.Sink.taken l.fn.out) (g.O.Sink.taken l.out) (flat_map (next_item g.P.Item.shown) (take l.other-index l.others))
