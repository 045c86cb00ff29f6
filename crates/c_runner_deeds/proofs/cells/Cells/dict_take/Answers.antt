use Rattle.std.proofs.Common.{sym, ◌∙◌}
use Rattle.cell_heap.specs.Contents.{name_of}
use Rattle.cell_heap.specs.Pairs.{without_pair}
use Rattle.cell_heap.specs.Placed.{refill_held}
use Rattle.cell_heap.proofs.OursLemmas.{holds-refill, keeps-refill, without_pair-ours}
use Rattle.cell_heap.proofs.NumberedLemmas.{numbered-there, numbered-refill, without_pair-numbered}
use Rattle.c_runner_deeds.specs.Ours.{maybe_pair_refs}
use Rattle.c_runner_deeds.proofs.CellsLemmas.{number_so, hold_so, keep_so, pair_out, pair_own, still_so}
use Rattle.c_runner_deeds.proofs.cells.Cells.dict_take.Goals as goal

pub invariant_of-self : goal.invariant_of-self
invariant_of-self c =
    hold_so c.dict_take.result c.self.inside.heap (refill_held (without_pair c.args.place) (name_of c.args.dict) c.self.inside.heap) c.dict_take.new.self c.dict_take.ensures.ok c.dict_take.ensures.dead (holds-refill (without_pair c.args.place) c.self.inside.heap (name_of c.args.dict) (without_pair-ours c.self.inside.heap c.args.place) c.self.invariant) c.self.invariant

pub returns-clause-there : goal.returns-clause-there
returns-clause-there c =
    rw (← c.self.view_is) (c.dict_take.ensures.there ∙ sym (numbered-there c.self.inside.heap (name_of c.args.dict) (rw c.self.view_is c.requires)))

pub returns-clause-ok : goal.returns-clause-ok
returns-clause-ok c =
    rw (← c.self.view_is) (number_so c.dict_take.result c.self.inside.heap (refill_held (without_pair c.args.place) (name_of c.args.dict) c.self.inside.heap) c.dict_take.new.self _ c.dict_take.ensures.ok (numbered-refill (without_pair c.args.place) (without_pair c.args.place) c.self.inside.heap (name_of c.args.dict) (without_pair-numbered c.args.place) (rw c.self.view_is c.requires)))

pub returns-clause-kept : goal.returns-clause-kept
returns-clause-kept c =
    rw (← c.self.view_is) (keep_so c.dict_take.result c.self.inside.heap (refill_held (without_pair c.args.place) (name_of c.args.dict) c.self.inside.heap) c.dict_take.new.self c.dict_take.ensures.ok c.dict_take.ensures.dead (keeps-refill (without_pair c.args.place) c.self.inside.heap (name_of c.args.dict)))

pub returns-clause-pair : goal.returns-clause-pair
returns-clause-pair c =
    rw (← c.self.view_is) (pair_out c.self.inside.heap (name_of c.args.dict) (rw c.self.view_is c.requires) c.args.place c.dict_take.result c.dict_take.ensures.pair)

pub returns-clause-ours : goal.returns-clause-ours
returns-clause-ours c =
    still_so maybe_pair_refs c.self.inside.heap c.dict_take.new.self c.dict_take.result (keep_so c.dict_take.result c.self.inside.heap (refill_held (without_pair c.args.place) (name_of c.args.dict) c.self.inside.heap) c.dict_take.new.self c.dict_take.ensures.ok c.dict_take.ensures.dead (keeps-refill (without_pair c.args.place) c.self.inside.heap (name_of c.args.dict))) (pair_own c.self.inside.heap (name_of c.args.dict) c.self.invariant c.args.place c.dict_take.result c.dict_take.ensures.pair)
