use Rattle.py_typed.specs.Statements.{typed_module}
use Rattle.mypyc_top_words.specs.declared.words.Emit.TheVariants.{C}
use Rattle.mypyc_top.proofs.PlanLemmas.{good_module}
use Rattle.mypyc_top.proofs.plan.compile_plan.Goals as goal

pub returns-in_ok-code-in-Ok-clause-answer : goal.returns-in_ok-code-in-Ok-clause-answer
returns-in_ok-code-in-Ok-clause-answer c = λ items.
    let sent = c.output_reply.ensures in
    good_module C c.args.file.now c.args.bytes.now (typed_module c.in-Ok.checked) _ _ _ _ c.in-Ok.ensures.judged c.in-Ok.ensures.typed
    ((c.in_ok-code-in-Ok.code, c.in_ok-code-in-Ok.ensures, sent.0), sent.1, sent.2)
