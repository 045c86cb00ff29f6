use Rattle.std.proofs.Common.{refl, sym, ap, ◌∙◌}
use Rattle.std.specs.Option.{is_some, option_and_then}
use Rattle.cell_heap.specs.declared.cells.CountedCell.{CountedCell}
use Rattle.cell_heap.specs.Pairs.{pair_in, without_pair}
use Rattle.cell_heap.proofs.HeldLemmas.{held_found, held_lost}
use Rattle.cell_heap.proofs.MarkLemmas.{has_taken}
use Rattle.cell_heap.proofs.KeptLemmas.{without_pair-key, kept_written}
use Rattle.cell_heap.proofs.ChangeLemmas.{put_writes}
use Rattle.cell_heap.proofs.heap.Heap.dict_take.Goals as goal

pub returns-in_default-clause-there : goal.returns-in_default-clause-there
returns-in_default-clause-there c =
    rw (← c.self.view_is) (sym (ap is_some (held_lost c.self.inside.cells c.args.dict c.lookup_mut.ensures.named c.in_default.ensures.cell)))

pub returns-clause-there : goal.returns-clause-there
returns-clause-there c =
    rw (← c.self.view_is) (sym (ap is_some (held_found c.self.inside.cells c.args.dict c.in-Some.cell.now c.lookup_mut.ensures.named c.in-Some.ensures.cell)))

pub returns-clause-ok : goal.returns-clause-ok
returns-clause-ok c =
    let new : CountedCell = record { count = c.in-Some.cell.now.count; content = c.take_pair.new.self } in
    rw (← c.self.view_is) (put_writes (without_pair c.args.place) c.self.inside.cells c.args.dict c.in-Some.cell.now new c.lookup_mut.ensures.named c.in-Some.ensures.cell refl c.take_pair.ensures.rest)

pub returns-clause-pair : goal.returns-clause-pair
returns-clause-pair c =
    rw (← c.self.view_is) (c.take_pair.ensures.pair ∙ sym (ap (option_and_then (pair_in c.args.place)) (held_found c.self.inside.cells c.args.dict c.in-Some.cell.now c.lookup_mut.ensures.named c.in-Some.ensures.cell)))

pub invariant_of-self-2 : goal.invariant_of-self-2
invariant_of-self-2 c =
    let new : CountedCell = record { count = c.in-Some.cell.now.count; content = c.take_pair.new.self } in
    kept_written (without_pair c.args.place) c.self.inside.cells c.args.dict c.in-Some.cell.now new (without_pair-key c.args.place) c.lookup_mut.ensures.named c.in-Some.ensures.cell refl c.take_pair.ensures.rest (λ after narrows. has_taken after c.args.place c.in-Some.cell.now.content c.take_pair.new.self c.take_pair.ensures.marked) c.self.invariant
