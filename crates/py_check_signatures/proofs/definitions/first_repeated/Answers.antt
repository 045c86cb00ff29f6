use Rattle.std.proofs.Common.{rules, ◌≡◌, ◌+◌, ◌∙◌, true, false, drop, sym, ap}
use Rattle.py_binder.specs.Scope.{contains}
use Rattle.py_check_signatures.specs.Definitions.{repeated}
use Rattle.py_check_signatures.proofs.DefinitionLemmas.{names, names_at, new_one, old_one}
use Rattle.py_check_signatures.proofs.definitions.first_repeated.Goals as goal

pub loop-name-preserved : goal.loop-name-preserved
loop-name-preserved c =
    let params = c.args.params.now in
    let i = c.loop-name.name-index in
    let p = c.loop-name-item.result in
    let new : contains c.loop-name.before.keys p.0 ≡ false = search (rules, c.contains.ensures, c.if-contains.false) in
    let copied : c.in_ok-clone.field-0 ≡ p.0 = search rules in
    new_one _ _ (names (drop (i + 1) params)) p.0 _ _ new copied c.in_ok-insert.ensures.keys
    (sym (ap (repeated c.loop-name.before.keys) (names_at params i p c.loop-name-test.true c.loop-name-item.is)) ∙ c.loop-name.invariant)

pub returns-then-contains : goal.returns-then-contains
returns-then-contains c =
    let params = c.args.params.now in
    let i = c.loop-name.name-index in
    let p = c.loop-name-item.result in
    let old : contains c.loop-name.before.keys p.0 ≡ true = search (rules, c.contains.ensures, c.if-contains.true) in
    old_one _ (names (drop (i + 1) params)) p.0 _ old
    (sym (ap (repeated c.loop-name.before.keys) (names_at params i p c.loop-name-test.true c.loop-name-item.is)) ∙ c.loop-name.invariant)
