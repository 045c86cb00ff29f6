use Rattle.std.proofs.Common.{refl, sym, ap, ◌∙◌}
use Rattle.std.specs.Option.{option_copied}
use Rattle.c_core.specs.Primitives.{OfGlobal}
use Rattle.c_runner_deeds.specs.States.{state_of, seen}
use Rattle.c_runner_deeds.proofs.GlobalLemmas.{set_unnamed, set_absent, set_found, set_crowded, set_unheld, set_held}
use Rattle.c_runner_deeds.proofs.OursLemmas.{global_own}
use Rattle.c_runner_deeds.proofs.state.State.set_global.Goals as goal

pub returns-in_default : goal.returns-in_default
returns-in_default c =
    λ first target known rest. set_unnamed (state_of rest (seen c.args.self.now)) c.args.code.now target first c.args.argument.now c.args.is_alone (sym known ∙ c.in_default.is)

pub returns-in_default-get : goal.returns-in_default-get
returns-in_default-get c =
    λ first target known rest. set_absent (state_of rest (seen c.args.self.now)) c.args.code.now target first c.args.argument.now c.args.is_alone c.in-Some.number (sym c.in-Some.is ∙ known) (sym c.get.ensures.value ∙ ap option_copied c.in_default-get.is)

pub returns-in-Err : goal.returns-in-Err
returns-in-Err c =
    λ first target known rest.
    let s = state_of rest (seen c.args.self.now) in
    set_found s c.args.code.now target first c.args.argument.now c.args.is_alone c.in-Some.number c.in-Some-get.declared.now c.stolen_word.result _ (sym c.in-Some.is ∙ known) c.in-Some-get.ensures.value (c.stolen_word.ensures.stolen rest c.args.code.now OfGlobal)
    (rw c.in-Err.is (λ name is kind. refl))

pub returns-then-not-is_alone : goal.returns-then-not-is_alone
returns-then-not-is_alone c =
    λ first target known rest.
    let s = state_of rest (seen c.args.self.now) in
    set_found s c.args.code.now target first c.args.argument.now c.args.is_alone c.in-Some.number c.in-Some-get.declared.now c.stolen_word.result _ (sym c.in-Some.is ∙ known) c.in-Some-get.ensures.value (c.stolen_word.ensures.stolen rest c.args.code.now OfGlobal)
    (rw c.in-Ok.is (set_crowded s c.args.code.now target c.in-Some.number c.in-Some-get.declared.now c.args.is_alone c.in-Ok.word c.if-not-is_alone.true))

pub returns-in_default-get-2 : goal.returns-in_default-get-2
returns-in_default-get-2 c =
    λ first target known rest.
    let s = state_of rest (seen c.args.self.now) in
    set_found s c.args.code.now target first c.args.argument.now c.args.is_alone c.in-Some.number c.in-Some-get.declared.now c.stolen_word.result _ (sym c.in-Some.is ∙ known) c.in-Some-get.ensures.value (c.stolen_word.ensures.stolen rest c.args.code.now OfGlobal)
    (rw c.in-Ok.is (set_unheld rest (seen c.args.self.now) c.args.code.now target c.in-Some.number c.in-Some-get.declared.now c.args.is_alone c.in-Ok.word (sym c.get-2.ensures.value ∙ ap option_copied c.in_default-get-2.is)))

pub returns : goal.returns
returns c =
    λ first target known rest.
    let s = state_of rest (seen c.args.self.now) in
    set_found s c.args.code.now target first c.args.argument.now c.args.is_alone c.in-Some.number c.in-Some-get.declared.now c.stolen_word.result _ (sym c.in-Some.is ∙ known) c.in-Some-get.ensures.value (c.stolen_word.ensures.stolen rest c.args.code.now OfGlobal)
    (rw c.in-Ok.is (set_held rest (seen c.args.self.now) c.args.code.now target c.in-Some.number c.in-Some-get.declared.now c.args.is_alone c.in-Ok.word c.in-Some-get-2.held.now _ (seen c.store.new.self) c.if-not-is_alone.false c.in-Ok.ensures.word c.in-Some-get-2.ensures.value c.lose.ensures (c.store.ensures rest)))

pub store-requires-clause-held : goal.store-requires-clause-held
store-requires-clause-held c = global_own c.args.self.now c.in-Some.number c.in-Some-get-2.held.now c.in-Some-get-2.ensures.value
