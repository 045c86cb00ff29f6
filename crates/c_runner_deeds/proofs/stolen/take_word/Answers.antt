use Rattle.std.proofs.Common.{sym, ap, ◌∙◌}
use Rattle.std.specs.Prelude.{is_ok}
use Rattle.cell_heap.specs.Numbered.{numbered}
use Rattle.c_runner_deeds.proofs.GlobalLemmas.{take_dead}
use Rattle.c_runner_deeds.proofs.stolen.take_word.Goals as goal

pub returns-in-Err-clause-taken : goal.returns-in-Err-clause-taken
returns-in-Err-clause-taken c =
    take_dead (numbered c.args.cells.now) (numbered c.take.new.self) c.args.word c.in-Big.key c.in-Big.is (sym (ap is_ok c.in-Err.is) ∙ c.take.ensures.there) (ap numbered c.in-Err.ensures.dead)
