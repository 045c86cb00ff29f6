use Rattle.std.proofs.Common.{sym, ap, ◌∙◌, Some}
use Rattle.c_runner_deeds.specs.States.{seen}
use Rattle.c_runner_deeds.proofs.GlobalLemmas.{shares_held, fails_unheld}
use Rattle.std.proofs.Common.{subst}
use Rattle.cell_heap.specs.Ours.{AreOurs}
use Rattle.c_runner_deeds.specs.Ours.{maybe_refs}
use Rattle.c_runner_deeds.proofs.OursLemmas.{global_own}
use Rattle.c_runner_deeds.proofs.state.State.get_global.Goals as goal

pub returns-in-Some-held : goal.returns-in-Some-held
returns-in-Some-held c =
    shares_held (seen c.args.self.now) (seen c.share.new.self) c.args.code.now c.args.name.now c.args.target c.in-Some.number c.in-Some-get.declared.now c.in-Some-held.word c.share.result (sym c.in-Some.is ∙ c.requires.global) c.in-Some-get.ensures.value (ap Some (sym c.in-Some-held.is) ∙ c.in-Some-get-2.ensures.value) c.share.ensures

pub returns-in_ok-text-in-None : goal.returns-in_ok-text-in-None
returns-in_ok-text-in-None c =
    fails_unheld (seen c.args.self.now) (seen c.fail.new.self) c.args.code.now c.args.name.now c.args.target c.in-Some.number c.in-Some-get.declared.now _ c.in_ok-text-in-None.text c.fail.result (sym c.in-Some.is ∙ c.requires.global) c.in-Some-get.ensures.value (ap Some (sym c.in-None.is) ∙ c.in-Some-get-2.ensures.value) c.error_of.ensures c.in_ok-text-in-None.ensures c.fail.ensures

pub share-requires-clause-ours : goal.share-requires-clause-ours
share-requires-clause-ours c =
    subst (λ o. AreOurs c.args.self.now.cells (maybe_refs o)) c.in-Some-held.is (global_own c.args.self.now c.in-Some.number c.in-Some-get-2.held.now c.in-Some-get-2.ensures.value)
