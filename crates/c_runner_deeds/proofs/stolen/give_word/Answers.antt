use Rattle.std.proofs.Common.{sym, ap, ◌∙◌}
use Rattle.std.specs.Prelude.{is_ok}
use Rattle.cell_heap.specs.Numbered.{numbered}
use Rattle.c_runner_deeds.proofs.GlobalLemmas.{give_dead}
use Rattle.c_runner_deeds.proofs.stolen.give_word.Goals as goal

pub returns-in-Err-clause-given : goal.returns-in-Err-clause-given
returns-in-Err-clause-given c =
    give_dead (numbered c.args.cells.now) (numbered c.give.new.self) c.args.word c.in-Some.word c.in-Big.key c.in-Some.is c.in-Big.is (sym (ap is_ok c.in-Err.is) ∙ c.give.ensures.there) (ap numbered c.in-Err.ensures.dead)
