use Rattle.std.proofs.Common.{sym, ◌∙◌, ap, subst, ℕ, ◌<◌, ◌≤◌, List, length, Some, arith}
use Rattle.mypyc_top_words.specs.Limits.{most_bytes}
use Rattle.mypyc_top_status.specs.ErrorLines.{large_line}
use Rattle.mypyc_top_compiler.proofs.Values.{if_ok}
use Rattle.mypyc_top.specs.Answer.{ModeAnswer}
use Rattle.mypyc_top.specs.Plans.{Plans}
use Rattle.mypyc_top.proofs.PlanLemmas.{read_plan, large_answer}
use Rattle.mypyc_top.proofs.ReadLemmas.{same_text}
use Rattle.mypyc_top.proofs.plan.request_plan.Goals as goal

pub returns-in-Ok-clause-answer : goal.returns-in-Ok-clause-answer
returns-in-Ok-clause-answer g c =
    if_ok c.file_plan.result (Plans (ModeAnswer c.args.request.now.emit c.args.request.now c.deref.result.now)) _
    (λ plan p tells below.
    let within : length c.deref.result.now ≤ most_bytes c.args.request.now.emit = omega (arith, c.deref.ensures.len, c.in-Ok.ensures.within) in
    read_plan c.args.request.now (g.F.Files.faults c.args.files.now) (g.F.Files.faults c.read_file.new.files) _ _ c.deref.result.now plan
    c.in-Ok.ensures.counted below
    (c.in-Ok.ensures.whole tells ∙ ap (λ (b : List ℕ). Some b) (sym c.deref.ensures.value))
    within p)
    c.file_plan.ensures.answer

pub returns-in_ok-large_reply-in-Err-TooLarge-clause-answer : goal.returns-in_ok-large_reply-in-Err-TooLarge-clause-answer
returns-in_ok-large_reply-in-Err-TooLarge-clause-answer g c = λ tells below items.
    let refused = rw c.in-Err-TooLarge.field-0-is at c.in-Err-TooLarge.ensures.refused in
    let counted = rw c.in-Err-TooLarge.field-0-is at c.in-Err-TooLarge.ensures.counted in
    let large = refused tells in
    let sent = c.in_ok-large_reply-in-Err-TooLarge.ensures in
    large_answer c.args.request.now (g.F.Files.faults c.args.files.now) (g.F.Files.faults c.read_file.new.files) _ _ large.0 items _ _ _
    counted below
    large.1
    (subst (λ m. m < length large.0) c.most_bytes_of.ensures large.2)
    sent.0 (sent.1 ∙ ap large_line c.as_str-file.ensures) sent.2

pub returns-in-Ok-clause-text : goal.returns-in-Ok-clause-text
returns-in-Ok-clause-text g c = λ bytes tells content text.
    same_text bytes c.deref.result.now c.file_plan.result
    (sym content ∙ c.in-Ok.ensures.whole tells ∙ ap (λ (b : List ℕ). Some b) (sym c.deref.ensures.value))
    (c.file_plan.ensures.text text)
