use Rattle.c_runner_deeds.specs.States.{seen}
use Rattle.c_runner_objects.proofs.ListLemmas.{lists, added}
use Rattle.c_runner_deeds.proofs.OursLemmas.{target_own}
use Rattle.c_runner_objects.proofs.OwnLemmas.{vars_kept}
use Rattle.c_runner_objects.proofs.lists.add_item.Goals as goal

pub returns-in-Ok : goal.returns-in-Ok
returns-in-Ok c =
    λ rest. added rest (seen c.args.state.now) c.args.target c.args.key c.args.word _ _ _ c.requires.list c.in-Ok.ensures.ok c.lose.ensures c.set_target.ensures

pub push_word-requires-clause-list : goal.push_word-requires-clause-list
push_word-requires-clause-list c = lists (seen c.args.state.now).cells _ c.requires.list

pub invariant_of-state-in-Ok : goal.invariant_of-state-in-Ok
invariant_of-state-in-Ok c = record {
  ours = target_own c.args.state.now c.push_word.new.self c.args.target _ c.lose.new.self c.set_target.new.self
      c.in-Ok.ensures.kept (vars_kept c.args.state.now.top c.lose.new.self _ c.lose.ensures) c.set_target.ensures tt;
}
