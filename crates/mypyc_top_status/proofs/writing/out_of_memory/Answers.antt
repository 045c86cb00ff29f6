use Rattle.mypyc_top_status.specs.ErrorLines.{memory_line}
use Rattle.mypyc_top_status.proofs.Taken.{some_taken}
use Rattle.mypyc_top_status.proofs.writing.out_of_memory.Goals as goal

pub returns-clause-front : goal.returns-clause-front
returns-clause-front g c =
    some_taken c.write_whole.result (g.E.Sink.taken c.args.err.now) (g.E.Sink.taken c.write_whole.new.sink) memory_line c.write_whole.ensures.taken c.write_whole.ensures.front
