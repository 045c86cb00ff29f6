use Rattle.std.proofs.Common.{◌∙◌}
use Rattle.py_typed.specs.Statements.{typed_module}
use Rattle.mypyc_top_words.specs.declared.words.Emit.TheVariants.{Check}
use Rattle.mypyc_top.proofs.PlanLemmas.{good_module}
use Rattle.mypyc_top.proofs.plan.check_plan.Goals as goal

pub returns-in_ok-text-in-Ok-clause-answer : goal.returns-in_ok-text-in-Ok-clause-answer
returns-in_ok-text-in-Ok-clause-answer c = λ items.
    let sent = c.output_reply.ensures in
    good_module Check c.args.file.now c.args.bytes.now (typed_module c.in-Ok._checked) _ _ _ _ c.in-Ok.ensures.judged c.in-Ok.ensures.typed
    (sent.0 ∙ c.in_ok-text-in-Ok.ensures.items, sent.1, sent.2)
