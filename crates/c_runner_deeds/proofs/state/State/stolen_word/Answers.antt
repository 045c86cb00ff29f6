use Rattle.std.proofs.Common.{sym, ◌∙◌, ap, Err}
use Rattle.std.proofs.lemmas.Result.{err_from_is_err_and}
use Rattle.c_core.specs.Primitives.{Anything}
use Rattle.c_runner_deeds.specs.Parts.{argument_of, stolen_or}
use Rattle.c_runner_deeds.specs.States.{state_of, seen}
use Rattle.cell_heap.specs.Contents.{word_of}
use Rattle.c_runner_deeds.proofs.GlobalLemmas.{if_lost, steals, word_is, word_lost, word_kept}
use Rattle.c_runner_deeds.proofs.state.State.stolen_word.Goals as goal

pub returns-in_err-word-clause-stolen : goal.returns-in_err-word-clause-stolen
returns-in_err-word-clause-stolen c =
    let failed = err_from_is_err_and c.from_residual.result c.from_residual.ensures.1 in
    λ rest code place earlier go kind.
    let s = state_of rest (seen c.args.self.now) in
    steals s code c.args.kind place Anything c.args.argument.now earlier s.top.ledger go kind
    ∙ c.in_err-word.ensures.passed rest (λ v. if_lost s v s.top.ledger (go (argument_of s.cells v)))
    ∙ sym (ap (λ r. stolen_or r s go) (failed.1 ∙ ap Err failed.2))

pub returns-then-not-owns-clause-stolen : goal.returns-then-not-owns-clause-stolen
returns-then-not-owns-clause-stolen c =
    λ rest code place earlier go kind.
    let s = state_of rest (seen c.args.self.now) in
    steals s code c.args.kind place Anything c.args.argument.now earlier s.top.ledger go kind
    ∙ c.in_ok-word.ensures.passed rest (λ v. if_lost s v s.top.ledger (go (argument_of s.cells v)))
    ∙ word_kept s (word_of c.in_ok-word.word) s.top.ledger (go (argument_of s.cells (word_of c.in_ok-word.word))) (sym c.owns.ensures ∙ c.if-not-owns.true)

pub returns-clause-stolen : goal.returns-clause-stolen
returns-clause-stolen c =
    λ rest code place earlier go kind.
    let s = state_of rest (seen c.args.self.now) in
    steals s code c.args.kind place Anything c.args.argument.now earlier s.top.ledger go kind
    ∙ c.in_ok-word.ensures.passed rest (λ v. if_lost s v s.top.ledger (go (argument_of s.cells v)))
    ∙ word_lost s (word_of c.in_ok-word.word) s.top.ledger (go (argument_of s.cells (word_of c.in_ok-word.word))) (sym c.owns.ensures ∙ c.if-not-owns.false)

pub returns-clause-word : goal.returns-clause-word
returns-clause-word c = word_is (seen c.args.self.now).cells c.args.kind (word_of c.in_ok-word.word) c.in_ok-word.ensures.value c.in_ok-word.ensures.there
