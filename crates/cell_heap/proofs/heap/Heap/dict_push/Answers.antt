use Rattle.std.proofs.Common.{refl, sym, ap}
use Rattle.std.specs.Option.{is_none}
use Rattle.std.proofs.lemmas.Result.{err_from_is_err_and}
use Rattle.cell_heap.specs.declared.cells.CountedCell.{CountedCell}
use Rattle.cell_heap.specs.Contents.{pair_named}
use Rattle.cell_heap.specs.Held.{cells_of}
use Rattle.cell_heap.specs.Pairs.{with_pair}
use Rattle.cell_heap.proofs.HeldLemmas.{held_found, held_lost}
use Rattle.cell_heap.proofs.MarkLemmas.{has_put}
use Rattle.cell_heap.proofs.KeptLemmas.{with_pair-key, kept_written}
use Rattle.cell_heap.proofs.ChangeLemmas.{put_writes}
use Rattle.cell_heap.proofs.heap.Heap.dict_push.Goals as goal

pub returns-in_default-clause-there : goal.returns-in_default-clause-there
returns-in_default-clause-there c =
    rw (← c.self.view_is) (sym (ap is_none (held_lost c.self.inside.cells c.args.dict c.lookup_mut.ensures.named c.in_default.ensures.cell)))

pub returns-in_err-push_pair-clause-there : goal.returns-in_err-push_pair-clause-there
returns-in_err-push_pair-clause-there c =
    let failed = err_from_is_err_and c.from_residual.result c.from_residual.ensures.1 in
    rw (failed.1, failed.2, ← c.self.view_is) (sym (ap is_none (held_found c.self.inside.cells c.args.dict c.in-Some.cell.now c.lookup_mut.ensures.named c.in-Some.ensures.cell)))

pub returns-clause-there : goal.returns-clause-there
returns-clause-there c =
    rw (← c.self.view_is) (sym (ap is_none (held_found c.self.inside.cells c.args.dict c.in-Some.cell.now c.lookup_mut.ensures.named c.in-Some.ensures.cell)))

pub returns-clause-ok : goal.returns-clause-ok
returns-clause-ok c =
    let new : CountedCell = record { count = c.in-Some.cell.now.count; content = c.push_pair.new.self } in
    rw (← c.self.view_is) (put_writes (with_pair (pair_named c.args.pair)) c.self.inside.cells c.args.dict c.in-Some.cell.now new c.lookup_mut.ensures.named c.in-Some.ensures.cell refl c.in_ok-push_pair.ensures.ok)

pub invariant_of-self-2 : goal.invariant_of-self-2
invariant_of-self-2 c =
    let new : CountedCell = record { count = c.in-Some.cell.now.count; content = c.push_pair.new.self } in
    kept_written (with_pair (pair_named c.args.pair)) c.self.inside.cells c.args.dict c.in-Some.cell.now new (with_pair-key (pair_named c.args.pair)) c.lookup_mut.ensures.named c.in-Some.ensures.cell refl c.in_ok-push_pair.ensures.ok (λ after narrows. has_put (cells_of c.self.inside.cells.entries) after c.args.pair c.mark_of_word-mark.result c.in-Some.cell.now.content c.push_pair.new.self c.mark_of_word-mark.ensures c.in_ok-push_pair.ensures.marked narrows) c.self.invariant
