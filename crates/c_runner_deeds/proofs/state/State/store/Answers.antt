use Rattle.c_runner_deeds.specs.States.{seen}
use Rattle.c_runner_deeds.proofs.GlobalLemmas.{store_is}
use Rattle.c_runner_deeds.proofs.OursLemmas.{stored_own}
use Rattle.c_runner_deeds.proofs.state.State.store.Goals as goal

pub returns : goal.returns
returns c =
    λ rest. store_is rest (seen c.args.self.now) c.args.number c.args.held c.args.word _ _ c.set.ensures c.give_word.ensures.given

pub invariant_of-self : goal.invariant_of-self
invariant_of-self c = record { ours = stored_own c.args.self.now c.give_word.new.cells c.args.number c.args.word c.set.new.self c.give_word.ensures.kept c.set.ensures c.requires.word }
