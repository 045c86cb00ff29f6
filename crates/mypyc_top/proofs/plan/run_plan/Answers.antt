use Rattle.py_typed.specs.Statements.{typed_module}
use Rattle.mypyc_top_words.specs.declared.words.Emit.TheVariants.{Run}
use Rattle.mypyc_top.proofs.PlanLemmas.{good_module}
use Rattle.mypyc_top.proofs.RunLemmas.{module_run, run_can_come}
use Rattle.mypyc_top.proofs.plan.run_plan.Goals as goal

pub returns-in_ok-code-in-Ok-clause-allowed : goal.returns-in_ok-code-in-Ok-clause-allowed
returns-in_ok-code-in-Ok-clause-allowed c = λ items lines stop e.
    run_can_come (typed_module c.in-Ok.checked) c.in_ok-code-in-Ok.code c.args.turns items stop c.in_ok-code-in-Ok.ensures c.requires lines e

pub returns-in_ok-code-in-Ok-clause-answer : goal.returns-in_ok-code-in-Ok-clause-answer
returns-in_ok-code-in-Ok-clause-answer c = λ items lines stop e.
    good_module Run c.args.file.now c.args.bytes.now (typed_module c.in-Ok.checked) _ _ _ _ c.in-Ok.ensures.judged c.in-Ok.ensures.typed
    (module_run (typed_module c.in-Ok.checked) c.in_ok-code-in-Ok.code c.args.turns items stop c.in_ok-code-in-Ok.ensures c.requires lines e)
