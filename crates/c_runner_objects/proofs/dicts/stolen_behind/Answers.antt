use Rattle.std.proofs.Common.{refl, sym, ◌∙◌, ap, Err}
use Rattle.std.proofs.lemmas.Result.{err_from_is_err_and}
use Rattle.c_core.specs.declared.code.Kind.TheVariants.{Object}
use Rattle.c_core.specs.Primitives.{Anything, Is}
use Rattle.c_runner_objects.specs.Dicts.{taken_or}
use Rattle.c_runner_deeds.specs.Parts.{argument_of, left_by}
use Rattle.c_runner_deeds.specs.States.{state_of, seen}
use Rattle.cell_heap.specs.Contents.{word_of}
use Rattle.c_runner_objects.proofs.DictLemmas.{first_owned}
use Rattle.c_runner_deeds.proofs.GlobalLemmas.{if_lost, steals, word_is, word_lost, word_kept}
use Rattle.c_runner_objects.proofs.dicts.stolen_behind.Goals as goal

pub returns-in_err-word-clause-stolen : goal.returns-in_err-word-clause-stolen
returns-in_err-word-clause-stolen c =
    let failed = err_from_is_err_and c.from_residual.result c.from_residual.ensures.1 in
    λ rest code before go.
    let s = state_of rest (seen c.args.state.now) in
    let l = left_by (word_of c.args.earlier) s.top.ledger in
    steals s code Object (Is Object) Anything c.args.argument.now before l go refl
    ∙ c.in_err-word.ensures.passed rest (λ v. if_lost s v l (go (argument_of s.cells v)))
    ∙ sym (ap (λ r. taken_or r l s go) (failed.1 ∙ ap Err failed.2))

pub returns-then-not-owns_beside-clause-stolen : goal.returns-then-not-owns_beside-clause-stolen
returns-then-not-owns_beside-clause-stolen c =
    let owns = c.owns_beside.ensures (first_owned c.args.state.now.top.ledger c.args.earlier c.requires) in
    λ rest code before go.
    let s = state_of rest (seen c.args.state.now) in
    let l = left_by (word_of c.args.earlier) s.top.ledger in
    let v = word_of c.in_ok-word.word in
    steals s code Object (Is Object) Anything c.args.argument.now before l go refl
    ∙ c.in_ok-word.ensures.passed rest (λ v. if_lost s v l (go (argument_of s.cells v)))
    ∙ word_kept s v l (go (argument_of s.cells v)) (sym owns ∙ c.if-not-owns_beside.true)

pub returns-clause-stolen : goal.returns-clause-stolen
returns-clause-stolen c =
    let owns = c.owns_beside.ensures (first_owned c.args.state.now.top.ledger c.args.earlier c.requires) in
    λ rest code before go.
    let s = state_of rest (seen c.args.state.now) in
    let l = left_by (word_of c.args.earlier) s.top.ledger in
    let v = word_of c.in_ok-word.word in
    steals s code Object (Is Object) Anything c.args.argument.now before l go refl
    ∙ c.in_ok-word.ensures.passed rest (λ v. if_lost s v l (go (argument_of s.cells v)))
    ∙ word_lost s v l (go (argument_of s.cells v)) (sym owns ∙ c.if-not-owns_beside.false)

pub returns-clause-word : goal.returns-clause-word
returns-clause-word c = word_is (seen c.args.state.now).cells Object (word_of c.in_ok-word.word) c.in_ok-word.ensures.value c.in_ok-word.ensures.there
