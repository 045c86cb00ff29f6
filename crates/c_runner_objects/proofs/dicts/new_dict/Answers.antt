use Rattle.std.proofs.Common.{sym, ap, subst, ◌∙◌}
use Rattle.std.specs.Prelude.{map}
use Rattle.c_runner_deeds.specs.States.{state_of, seen}
use Rattle.cell_heap.specs.Contents.{pair_of, pairs_refs}
use Rattle.cell_heap.specs.Ours.{AreOurs}
use Rattle.c_runner_objects.proofs.DictLemmas.{makes_dict, new_crowded}
use Rattle.c_runner_objects.proofs.dicts.new_dict.Goals as goal

pub returns-in_ok-dict : goal.returns-in_ok-dict
returns-in_ok-dict c =
    makes_dict (seen c.args.state.now) (seen c.make_cell.new.self) c.args.target c.args.args.now (map pair_of c.in_ok-dict.dict.pairs) c.make_cell.result (sym c.is_empty.ensures ∙ c.if-is_empty.true) (ap (map pair_of) c.in_ok-dict.ensures) c.make_cell.ensures

pub returns-else-is_empty : goal.returns-else-is_empty
returns-else-is_empty c =
    λ code rest. (rest.made, new_crowded (state_of rest (seen c.args.state.now)) code c.args.target c.args.args.now (sym c.is_empty.ensures ∙ c.if-is_empty.false))

pub make_cell-requires-clause-ours : goal.make_cell-requires-clause-ours
make_cell-requires-clause-ours c = subst (λ ps. AreOurs c.args.state.now.cells (pairs_refs ps)) (sym c.in_ok-dict.ensures) tt
