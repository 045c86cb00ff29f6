use Rattle.std.proofs.Common.{sym, subst}
use Rattle.cell_heap.specs.Contents.{words_refs}
use Rattle.cell_heap.specs.Ours.{AreOurs}
use Rattle.c_runner_objects.proofs.items.tuple_item_deed.Goals as goal

pub returns-in-Ok-clause-ours : goal.returns-in-Ok-clause-ours
returns-in-Ok-clause-ours c = c.part.ensures.ours c.args.state.now.cells (subst (λ xs. AreOurs c.args.state.now.cells (words_refs xs)) (sym c.as_slice.ensures) c.in-Ok.ensures.parts)
