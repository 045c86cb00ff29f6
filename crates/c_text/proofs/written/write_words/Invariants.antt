use Rattle.std.proofs.Common.{take, Ok}
use Rattle.std.specs.List.{flat_map}
use Rattle.outside_core.specs.declared.failed.WriteFault.{WriteFault}
use Rattle.c_text.specs.Writing.{Wrote}
use Rattle.c_text.proofs.Writing.{word_text}
use Rattle.c_text.proofs.written.write_words.Given as goal

-- the words before the place are written
abbrev pub invariant-loop-word : goal.invariant-loop-word
invariant-loop-word g l =
    Wrote {E = WriteFault} (Ok (tt {0})) g.O.Sink.tells (g.O.Sink.faults l.fn.out) (g.O.Sink.faults l.out) (g.O.Sink.taken l.fn.out) (g.O.Sink.taken l.out) (flat_map word_text (take l.word-index l.words))
