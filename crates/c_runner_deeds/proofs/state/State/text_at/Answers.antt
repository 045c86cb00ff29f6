use Rattle.c_runner_deeds.proofs.OursLemmas.{cell_own}
use Rattle.c_runner_deeds.proofs.state.State.text_at.Goals as goal

pub content-requires : goal.content-requires
content-requires c = cell_own c.args.self.now c.args.x c.in-Some.word.now c.in-Cell.key c.in-Some.ensures.value c.in-Cell.is
