use Rattle.c_runner_deeds.specs.States.{seen}
use Rattle.c_runner_objects.proofs.DictLemmas.{dicts, entry_added}
use Rattle.std.proofs.Common.{◌∙◌}
use Rattle.c_runner_deeds.proofs.OursLemmas.{target_own}
use Rattle.c_runner_objects.proofs.OwnLemmas.{vars_kept}
use Rattle.c_runner_objects.proofs.dicts.add_entry.Goals as goal

pub returns-in-Ok : goal.returns-in-Ok
returns-in-Ok c =
    λ rest. entry_added rest (seen c.args.state.now) c.args.target c.args.dict c.args.key c.args.word _ _ _ _ c.requires.dict c.in-Ok.ensures.ok c.lose.ensures c.lose-in-Ok.ensures c.set_target.ensures

pub dict_push-requires-clause-dict : goal.dict_push-requires-clause-dict
dict_push-requires-clause-dict c = dicts (seen c.args.state.now).cells _ c.requires.dict

pub invariant_of-state-in-Ok : goal.invariant_of-state-in-Ok
invariant_of-state-in-Ok c = record {
  ours = target_own c.args.state.now c.dict_push.new.self c.args.target _ c.lose-in-Ok.new.self c.set_target.new.self
      c.in-Ok.ensures.kept (vars_kept c.lose.new.self c.lose-in-Ok.new.self _ c.lose-in-Ok.ensures ∙ vars_kept c.args.state.now.top c.lose.new.self _ c.lose.ensures) c.set_target.ensures tt;
}
