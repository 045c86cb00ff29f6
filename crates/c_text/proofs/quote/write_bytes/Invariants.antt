use Rattle.std.proofs.Common.{take, Ok}
use Rattle.std.specs.List.{flat_map}
use Rattle.outside_core.specs.declared.failed.WriteFault.{WriteFault}
use Rattle.c_text.specs.Writing.{Wrote}
use Rattle.c_core.specs.Text.{byte_text}
use Rattle.c_text.proofs.quote.write_bytes.Given as goal

-- those before the place are written
abbrev pub invariant-loop-byte : goal.invariant-loop-byte
invariant-loop-byte g l =
    Wrote {E = WriteFault} (Ok (tt {0})) g.O.Sink.tells (g.O.Sink.faults l.fn.out) (g.O.Sink.faults l.out) (g.O.Sink.taken l.fn.out) (g.O.Sink.taken l.out) (flat_map byte_text (take l.byte-index l.text))
