use Rattle.std.proofs.Common.{sym, ◌∙◌, ap, true, Err}
use Rattle.std.proofs.lemmas.Result.{err_from_is_err_and}
use Rattle.c_core.specs.Arguments.{is_holding}
use Rattle.c_core.specs.Primitives.{ANumber}
use Rattle.c_core.specs.Step.{if_true}
use Rattle.c_runner_deeds.specs.Parts.{argument_of, stolen_or}
use Rattle.c_runner_deeds.specs.States.{state_of, seen}
use Rattle.cell_heap.specs.Contents.{word_of}
use Rattle.c_runner_deeds.proofs.GlobalLemmas.{if_lost, word_lost, word_kept}
use Rattle.c_runner_deeds.proofs.StolenLemmas.{int_stolen}
use Rattle.c_runner_deeds.proofs.state.State.stolen_int.Goals as goal

pub returns-in_err-word-clause-stolen : goal.returns-in_err-word-clause-stolen
returns-in_err-word-clause-stolen c =
    let failed = err_from_is_err_and c.from_residual.result c.from_residual.ensures.1 in
    λ rest code earlier go.
    let s = state_of rest (seen c.args.self.now) in
    int_stolen s code c.args.argument.now earlier go
    ∙ c.in_err-word.ensures.passed rest (λ v. if_true true s (is_holding ANumber (argument_of s.cells v)) (if_lost s v s.top.ledger (go (argument_of s.cells v))))
    ∙ sym (ap (λ r. stolen_or r s go) (failed.1 ∙ ap Err failed.2))

pub returns-then-not-is_number-clause-stolen : goal.returns-then-not-is_number-clause-stolen
returns-then-not-is_number-clause-stolen c =
    λ rest code earlier go.
    let s = state_of rest (seen c.args.self.now) in
    let v = word_of c.in_ok-word.word in
    int_stolen s code c.args.argument.now earlier go
    ∙ c.in_ok-word.ensures.passed rest (λ v. if_true true s (is_holding ANumber (argument_of s.cells v)) (if_lost s v s.top.ledger (go (argument_of s.cells v))))
    ∙ ap (λ b. if_true true s b (if_lost s v s.top.ledger (go (argument_of s.cells v)))) (sym c.is_number.ensures ∙ c.if-not-is_number.true)

pub returns-then-not-owns-clause-stolen : goal.returns-then-not-owns-clause-stolen
returns-then-not-owns-clause-stolen c =
    λ rest code earlier go.
    let s = state_of rest (seen c.args.self.now) in
    let v = word_of c.in_ok-word.word in
    int_stolen s code c.args.argument.now earlier go
    ∙ c.in_ok-word.ensures.passed rest (λ v. if_true true s (is_holding ANumber (argument_of s.cells v)) (if_lost s v s.top.ledger (go (argument_of s.cells v))))
    ∙ ap (λ b. if_true true s b (if_lost s v s.top.ledger (go (argument_of s.cells v)))) (sym c.is_number.ensures ∙ c.if-not-is_number.false)
    ∙ word_kept s v s.top.ledger (go (argument_of s.cells v)) (sym c.owns.ensures ∙ c.if-not-owns.true)

pub returns-clause-stolen : goal.returns-clause-stolen
returns-clause-stolen c =
    λ rest code earlier go.
    let s = state_of rest (seen c.args.self.now) in
    let v = word_of c.in_ok-word.word in
    int_stolen s code c.args.argument.now earlier go
    ∙ c.in_ok-word.ensures.passed rest (λ v. if_true true s (is_holding ANumber (argument_of s.cells v)) (if_lost s v s.top.ledger (go (argument_of s.cells v))))
    ∙ ap (λ b. if_true true s b (if_lost s v s.top.ledger (go (argument_of s.cells v)))) (sym c.is_number.ensures ∙ c.if-not-is_number.false)
    ∙ word_lost s v s.top.ledger (go (argument_of s.cells v)) (sym c.owns.ensures ∙ c.if-not-owns.false)
