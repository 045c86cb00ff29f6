use Rattle.std.proofs.Common.{sym, ◌∙◌}
use Rattle.cell_heap.specs.Contents.{name_of}
use Rattle.cell_heap.specs.Placed.{refill_held}
use Rattle.cell_heap.specs.Words.{without_last}
use Rattle.cell_heap.proofs.OursLemmas.{holds-refill, keeps-refill, without_last-ours}
use Rattle.cell_heap.proofs.NumberedLemmas.{numbered-there, numbered-refill, without_last-numbered}
use Rattle.c_runner_deeds.specs.Ours.{maybe_refs}
use Rattle.c_runner_deeds.proofs.CellsLemmas.{number_so, hold_so, keep_so, last_out, last_own, still_so}
use Rattle.c_runner_deeds.proofs.cells.Cells.pop_word.Goals as goal

pub invariant_of-self : goal.invariant_of-self
invariant_of-self c =
    hold_so c.pop_word.result c.self.inside.heap (refill_held (without_last) (name_of c.args.key) c.self.inside.heap) c.pop_word.new.self c.pop_word.ensures.ok c.pop_word.ensures.dead (holds-refill (without_last) c.self.inside.heap (name_of c.args.key) (without_last-ours c.self.inside.heap) c.self.invariant) c.self.invariant

pub returns-clause-there : goal.returns-clause-there
returns-clause-there c =
    rw (← c.self.view_is) (c.pop_word.ensures.there ∙ sym (numbered-there c.self.inside.heap (name_of c.args.key) (rw c.self.view_is c.requires)))

pub returns-clause-ok : goal.returns-clause-ok
returns-clause-ok c =
    rw (← c.self.view_is) (number_so c.pop_word.result c.self.inside.heap (refill_held (without_last) (name_of c.args.key) c.self.inside.heap) c.pop_word.new.self _ c.pop_word.ensures.ok (numbered-refill (without_last) (without_last) c.self.inside.heap (name_of c.args.key) (without_last-numbered) (rw c.self.view_is c.requires)))

pub returns-clause-kept : goal.returns-clause-kept
returns-clause-kept c =
    rw (← c.self.view_is) (keep_so c.pop_word.result c.self.inside.heap (refill_held (without_last) (name_of c.args.key) c.self.inside.heap) c.pop_word.new.self c.pop_word.ensures.ok c.pop_word.ensures.dead (keeps-refill (without_last) c.self.inside.heap (name_of c.args.key)))

pub returns-clause-last : goal.returns-clause-last
returns-clause-last c =
    rw (← c.self.view_is) (last_out c.self.inside.heap (name_of c.args.key) (rw c.self.view_is c.requires) c.pop_word.result c.pop_word.ensures.last)

pub returns-clause-ours : goal.returns-clause-ours
returns-clause-ours c =
    still_so maybe_refs c.self.inside.heap c.pop_word.new.self c.pop_word.result (keep_so c.pop_word.result c.self.inside.heap (refill_held (without_last) (name_of c.args.key) c.self.inside.heap) c.pop_word.new.self c.pop_word.ensures.ok c.pop_word.ensures.dead (keeps-refill without_last c.self.inside.heap (name_of c.args.key))) (last_own c.self.inside.heap (name_of c.args.key) c.self.invariant c.pop_word.result c.pop_word.ensures.last)
