use Rattle.std.proofs.Common.{sym, ap, subst, ◌∙◌}
use Rattle.std.specs.Prelude.{map}
use Rattle.c_runner_deeds.specs.States.{state_of, seen}
use Rattle.cell_heap.specs.Contents.{word_of, words_refs}
use Rattle.cell_heap.specs.Ours.{AreOurs}
use Rattle.c_runner_objects.proofs.ListLemmas.{makes_list, new_crowded}
use Rattle.c_runner_objects.proofs.lists.new_list.Goals as goal

pub returns-then-is_empty : goal.returns-then-is_empty
returns-then-is_empty c =
    makes_list (seen c.args.state.now) (seen c.make_cell.new.self) c.args.target c.args.args.now (map word_of c.new.result) c.make_cell.result (sym c.is_empty.ensures ∙ c.if-is_empty.true) (ap (map word_of) c.new.ensures) c.make_cell.ensures

pub returns-else-is_empty : goal.returns-else-is_empty
returns-else-is_empty c =
    λ code rest. (rest.made, new_crowded (state_of rest (seen c.args.state.now)) code c.args.target c.args.args.now (sym c.is_empty.ensures ∙ c.if-is_empty.false))

pub make_cell-requires-clause-ours : goal.make_cell-requires-clause-ours
make_cell-requires-clause-ours c = subst (λ ws. AreOurs c.args.state.now.cells (words_refs ws)) (sym c.new.ensures) tt
