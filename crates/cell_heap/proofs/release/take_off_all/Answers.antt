use Rattle.std.proofs.Common.{sym, ap, subst, ◌∙◌}
use Rattle.cell_heap.specs.Contents.{content_named}
use Rattle.c_core.specs.Machine.{refs_in}
use Rattle.cell_heap.specs.Held.{cells_of}
use Rattle.cell_heap.specs.Marks.{AreAllMarked}
use Rattle.cell_heap.proofs.OursLemmas.{left_next}
use Rattle.cell_heap.proofs.ReleaseLemmas.{taken_leaves, taken_left, marked_taken_off, nothing_left}
use Rattle.cell_heap.proofs.release.take_off_all.Goals as goal

pub loop-pair-preserved : goal.loop-pair-preserved
loop-pair-preserved c = record {
  released =
      λ first is_left.
      taken_leaves first c.loop-pair.cells c.next_condemned.new.self c.lower_held.new.cells c.in-Some.pair (left_next first (cells_of c.args.cells.now.entries) (cells_of c.loop-pair.cells.entries) is_left c.loop-pair.invariant.rest) c.in-Some.ensures.first c.in-Some.ensures.taken c.lower_held.ensures
      ∙ c.loop-pair.invariant.released first is_left;
  rest =
      taken_left c.args.cells.now c.loop-pair.cells c.next_condemned.new.self c.lower_held.new.cells (refs_in (content_named c.in-Some.pair.1.content)) c.in-Some.ensures.taken c.lower_held.ensures c.loop-pair.invariant.rest;
  marked =
      λ marked. c.lower_held.ensures.marked (marked_taken_off c.loop-pair.cells c.next_condemned.new.self c.in-Some.ensures.taken (c.loop-pair.invariant.marked marked));
}

pub returns-clause-cells : goal.returns-clause-cells
returns-clause-cells c = λ first is_left.
    ap (λ a. cells_of a.entries) c.in_default.ensures.stays
    ∙ sym (nothing_left first c.loop-pair.cells (c.in_default.ensures.empty.0 (cc)))
    ∙ c.loop-pair.invariant.released first is_left

pub returns-clause-marked : goal.returns-clause-marked
returns-clause-marked c = λ marked. subst AreAllMarked (sym c.in_default.ensures.stays) (c.loop-pair.invariant.marked marked)
