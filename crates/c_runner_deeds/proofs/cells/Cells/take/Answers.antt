use Rattle.std.proofs.Common.{sym, ◌∙◌, subst, ◌+◌, ◌^◌, ◌<◌}
use Rattle.c_core.specs.Cells.{take_one}
use Rattle.cell_heap.specs.Contents.{name_of}
use Rattle.cell_heap.specs.Placed.{number_in}
use Rattle.cell_heap.proofs.OursLemmas.{holds-take, keeps-take}
use Rattle.cell_heap.proofs.NumberedLemmas.{numbered-there, numbered-count, numbered-take}
use Rattle.c_runner_deeds.proofs.CellsLemmas.{number_so, hold_so, keep_so}
use Rattle.c_runner_deeds.proofs.cells.Cells.take.Goals as goal

pub invariant_of-self : goal.invariant_of-self
invariant_of-self c =
    hold_so c.take.result c.self.inside.heap (take_one (number_in c.self.inside.heap (name_of c.args.key)) c.self.inside.heap) c.take.new.self c.take.ensures.ok c.take.ensures.dead (holds-take c.self.inside.heap (number_in c.self.inside.heap (name_of c.args.key)) c.self.invariant) c.self.invariant

pub returns-clause-there : goal.returns-clause-there
returns-clause-there c =
    rw (← c.self.view_is) (c.take.ensures.there ∙ sym (numbered-there c.self.inside.heap (name_of c.args.key) (rw c.self.view_is c.requires.ours)))

pub returns-clause-ok : goal.returns-clause-ok
returns-clause-ok c =
    rw (← c.self.view_is) (number_so c.take.result c.self.inside.heap (take_one (number_in c.self.inside.heap (name_of c.args.key)) c.self.inside.heap) c.take.new.self _ c.take.ensures.ok (numbered-take c.self.inside.heap (name_of c.args.key) (rw c.self.view_is c.requires.ours)))

pub returns-clause-kept : goal.returns-clause-kept
returns-clause-kept c =
    rw (← c.self.view_is) (keep_so c.take.result c.self.inside.heap (take_one (number_in c.self.inside.heap (name_of c.args.key)) c.self.inside.heap) c.take.new.self c.take.ensures.ok c.take.ensures.dead (keeps-take c.self.inside.heap (number_in c.self.inside.heap (name_of c.args.key))))

pub take-requires : goal.take-requires
take-requires c =
    subst (λ n. n + 1 < 2 ^ 128) (numbered-count c.self.inside.heap (name_of c.args.key) (rw c.self.view_is c.requires.ours)) (rw c.self.view_is c.requires.count)
