use Rattle.ir_builder_statements.proofs.CountLemmas.{copy_makes}
use Rattle.ir_builder_statements.proofs.counting.emit_copy.Goals as goal

pub returns-clause-made : goal.returns-clause-made
returns-clause-made c =
    copy_makes _ _ _ c.args.x c.in_ok-r.r c.args.t c.requires.value c.in_ok-r.ensures.declared c.in_ok-push.ensures.pushed
