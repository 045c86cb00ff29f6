use Rattle.std.proofs.Common.{sym, ◌∙◌, IfOk}
use Rattle.mypyc_top_words.specs.Words.{texts, words_of}
use Rattle.mypyc_top_words.proofs.MostTurns.{most_asked}
use Rattle.mypyc_top_compiler.proofs.Values.{if_ok}
use Rattle.mypyc_top.proofs.PlanLemmas.{words_plan}
use Rattle.mypyc_top.proofs.ReadLemmas.{of_request, of_turns, of_text}
use Rattle.mypyc_top.specs.Reads.{OfText}
use Rattle.mypyc_top.proofs.plan.plan_of.Goals as goal

pub returns-in-Go-clause-answer : goal.returns-in-Go-clause-answer
returns-in-Go-clause-answer g c =
    if_ok c.request_plan.result _ _
    (λ plan p tells below.
    words_plan (words_of (texts c.args.words.now)) c.in-Go.request (g.F.Files.content c.args.files.now) _ _ plan (sym c.in-Go.is ∙ c.in_ok-read_words.ensures) (p tells below))
    c.request_plan.ensures.answer

pub request_plan-requires : goal.request_plan-requires
request_plan-requires g c = most_asked (texts c.args.words.now) c.in-Go.request (sym c.in-Go.is ∙ c.in_ok-read_words.ensures)

pub returns-in-Go-clause-read_at_most : goal.returns-in-Go-clause-read_at_most
returns-in-Go-clause-read_at_most g c = λ bytes tells closed named is_open.
    of_request (g.F.Files.content c.args.files.now) (words_of (texts c.args.words.now)) c.in-Go.request _ bytes (sym c.in-Go.is ∙ c.in_ok-read_words.ensures)
    (λ content. c.request_plan.ensures.read_at_most bytes tells content is_open) named

pub returns-in-Go-clause-turns : goal.returns-in-Go-clause-turns
returns-in-Go-clause-turns g c =
    of_turns (words_of (texts c.args.words.now)) c.in-Go.request c.request_plan.result (sym c.in-Go.is ∙ c.in_ok-read_words.ensures) c.request_plan.ensures.turns

pub returns-in-Go-clause-text : goal.returns-in-Go-clause-text
returns-in-Go-clause-text g c = λ bytes tells named text.
    of_text (IfOk c.request_plan.result (OfText bytes)) (g.F.Files.content c.args.files.now) (words_of (texts c.args.words.now)) c.in-Go.request bytes (sym c.in-Go.is ∙ c.in_ok-read_words.ensures)
    (λ content is. c.request_plan.ensures.text bytes tells content is) named text
