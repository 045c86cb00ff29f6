use Rattle.std.proofs.Common.{refl, IsTrue}
use Rattle.mypyc_top_words.specs.declared.words.Emit.TheVariants.{Check, C, Run, Runc}
use Rattle.mypyc_top_status.specs.Replies.{is_module_status}
use Rattle.mypyc_top_compiler.proofs.Values.{if_ok}
use Rattle.mypyc_top.specs.Answer.{ModuleAnswer, Checked, Compiled}
use Rattle.mypyc_top.specs.Running.{TextRun, ModuleRun}
use Rattle.mypyc_top.proofs.ReadLemmas.{no_text, sent_turns}
use Rattle.mypyc_top.proofs.PlanLemmas.{mode_plan}
use Rattle.mypyc_top.proofs.plan.file_plan.Goals as goal

pub returns-in-Check-clause-answer : goal.returns-in-Check-clause-answer
returns-in-Check-clause-answer c =
    mode_plan c.args.request.now Check c.as_str-file.result.now c.args.bytes.now (λ file items out err s. ModuleAnswer Check file c.args.bytes.now (λ _. Checked out err s) out err s) c.check_plan.result c.in-Check.is c.as_str-file.ensures (λ plan p. p) c.check_plan.ensures.answer

pub returns-in-C-clause-answer : goal.returns-in-C-clause-answer
returns-in-C-clause-answer c =
    mode_plan c.args.request.now C c.as_str-file.result.now c.args.bytes.now (λ file items out err s. ModuleAnswer C file c.args.bytes.now (λ m. Compiled m out err s) out err s) c.compile_plan.result c.in-C.is c.as_str-file.ensures (λ plan p. p) c.compile_plan.ensures.answer

pub returns-in-Run-clause-answer : goal.returns-in-Run-clause-answer
returns-in-Run-clause-answer c =
    mode_plan c.args.request.now Run c.as_str-file.result.now c.args.bytes.now (λ file items out err s. ModuleAnswer Run file c.args.bytes.now (λ m. ModuleRun m c.args.request.now.turns items out err s) out err s) c.run_plan.result c.in-Run.is c.as_str-file.ensures (λ plan p. p) c.run_plan.ensures.answer

pub returns-in-Runc-clause-answer : goal.returns-in-Runc-clause-answer
returns-in-Runc-clause-answer c =
    mode_plan c.args.request.now Runc c.as_str-file.result.now c.args.bytes.now (λ file. TextRun file c.args.bytes.now c.args.request.now.turns) c.text_plan.result c.in-Runc.is c.as_str-file.ensures (λ plan p. p) c.text_plan.ensures.answer

pub returns-in-Check-clause-turns : goal.returns-in-Check-clause-turns
returns-in-Check-clause-turns c = if_ok c.check_plan.result _ _ (sent_turns (λ reply. IsTrue (is_module_status reply.status)) c.args.request.now.turns) c.check_plan.ensures.fit

pub returns-in-C-clause-turns : goal.returns-in-C-clause-turns
returns-in-C-clause-turns c = if_ok c.compile_plan.result _ _ (sent_turns (λ reply. IsTrue (is_module_status reply.status)) c.args.request.now.turns) c.compile_plan.ensures.fit

pub returns-in-Check-clause-text : goal.returns-in-Check-clause-text
returns-in-Check-clause-text c = λ text. no_text _ c.args.request.now.emit Check c.in-Check.is refl text

pub returns-in-C-clause-text : goal.returns-in-C-clause-text
returns-in-C-clause-text c = λ text. no_text _ c.args.request.now.emit C c.in-C.is refl text

pub returns-in-Run-clause-text : goal.returns-in-Run-clause-text
returns-in-Run-clause-text c = λ text. no_text _ c.args.request.now.emit Run c.in-Run.is refl text
