use Rattle.std.proofs.Common.{refl, sym, ◌∙◌, ap, true, Err}
use Rattle.std.proofs.lemmas.Result.{err_from_is_err_and}
use Rattle.c_core.specs.declared.code.Kind.TheVariants.{Object}
use Rattle.c_core.specs.Arguments.{is_holding}
use Rattle.c_core.specs.Primitives.{AKey, Is}
use Rattle.c_core.specs.Step.{if_true}
use Rattle.c_runner_deeds.specs.Parts.{argument_of, stolen_or}
use Rattle.c_runner_deeds.specs.States.{state_of, seen}
use Rattle.cell_heap.specs.Contents.{word_of}
use Rattle.c_runner_objects.proofs.DictLemmas.{key_is}
use Rattle.c_runner_deeds.proofs.GlobalLemmas.{if_lost, steals, word_is, word_lost, word_kept}
use Rattle.c_runner_objects.proofs.dicts.stolen_key.Goals as goal

pub returns-in_err-word-clause-stolen : goal.returns-in_err-word-clause-stolen
returns-in_err-word-clause-stolen c =
    let failed = err_from_is_err_and c.from_residual.result c.from_residual.ensures.1 in
    λ rest code earlier go.
    let s = state_of rest (seen c.args.state.now) in
    steals s code Object (Is Object) AKey c.args.argument.now earlier s.top.ledger go refl
    ∙ c.in_err-word.ensures.passed rest (λ v. if_true true s (is_holding AKey (argument_of s.cells v)) (if_lost s v s.top.ledger (go (argument_of s.cells v))))
    ∙ sym (ap (λ r. stolen_or r s go) (failed.1 ∙ ap Err failed.2))

pub returns-then-not-is_key-clause-stolen : goal.returns-then-not-is_key-clause-stolen
returns-then-not-is_key-clause-stolen c =
    λ rest code earlier go.
    let s = state_of rest (seen c.args.state.now) in
    let v = word_of c.in_ok-word.word in
    steals s code Object (Is Object) AKey c.args.argument.now earlier s.top.ledger go refl
    ∙ c.in_ok-word.ensures.passed rest (λ v. if_true true s (is_holding AKey (argument_of s.cells v)) (if_lost s v s.top.ledger (go (argument_of s.cells v))))
    ∙ ap (λ b. if_true true s b (if_lost s v s.top.ledger (go (argument_of s.cells v)))) (sym c.is_key.ensures ∙ c.if-not-is_key.true)

pub returns-then-not-owns-clause-stolen : goal.returns-then-not-owns-clause-stolen
returns-then-not-owns-clause-stolen c =
    λ rest code earlier go.
    let s = state_of rest (seen c.args.state.now) in
    let v = word_of c.in_ok-word.word in
    steals s code Object (Is Object) AKey c.args.argument.now earlier s.top.ledger go refl
    ∙ c.in_ok-word.ensures.passed rest (λ v. if_true true s (is_holding AKey (argument_of s.cells v)) (if_lost s v s.top.ledger (go (argument_of s.cells v))))
    ∙ ap (λ b. if_true true s b (if_lost s v s.top.ledger (go (argument_of s.cells v)))) (sym c.is_key.ensures ∙ c.if-not-is_key.false)
    ∙ word_kept s v s.top.ledger (go (argument_of s.cells v)) (sym c.owns.ensures ∙ c.if-not-owns.true)

pub returns-clause-stolen : goal.returns-clause-stolen
returns-clause-stolen c =
    λ rest code earlier go.
    let s = state_of rest (seen c.args.state.now) in
    let v = word_of c.in_ok-word.word in
    steals s code Object (Is Object) AKey c.args.argument.now earlier s.top.ledger go refl
    ∙ c.in_ok-word.ensures.passed rest (λ v. if_true true s (is_holding AKey (argument_of s.cells v)) (if_lost s v s.top.ledger (go (argument_of s.cells v))))
    ∙ ap (λ b. if_true true s b (if_lost s v s.top.ledger (go (argument_of s.cells v)))) (sym c.is_key.ensures ∙ c.if-not-is_key.false)
    ∙ word_lost s v s.top.ledger (go (argument_of s.cells v)) (sym c.owns.ensures ∙ c.if-not-owns.false)

pub returns-clause-word : goal.returns-clause-word
returns-clause-word c = word_is (seen c.args.state.now).cells Object (word_of c.in_ok-word.word) c.in_ok-word.ensures.value c.in_ok-word.ensures.there

pub returns-clause-key : goal.returns-clause-key
returns-clause-key c =
    key_is (seen c.args.state.now).cells (word_of c.in_ok-word.word) c.in_ok-word.ensures.value (sym c.is_key.ensures ∙ c.if-not-is_key.false)
