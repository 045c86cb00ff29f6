use Rattle.std.proofs.Common.{sym, subst}
use Rattle.cell_heap.specs.Contents.{pairs_refs}
use Rattle.cell_heap.specs.Ours.{AreOurs}
use Rattle.c_runner_objects.proofs.entries.dict_key_deed.Goals as goal

pub returns-in-Ok-clause-ours : goal.returns-in-Ok-clause-ours
returns-in-Ok-clause-ours c = c.key_at.ensures.ours c.args.state.now.cells (subst (λ xs. AreOurs c.args.state.now.cells (pairs_refs xs)) (sym c.as_slice.ensures) c.in-Ok.ensures.pairs)
