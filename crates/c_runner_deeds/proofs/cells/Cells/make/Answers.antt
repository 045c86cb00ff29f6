use Rattle.c_runner_deeds.proofs.CellsLemmas.{make_numbered, make_holds, make_ours, make_keeps}
use Rattle.c_runner_deeds.proofs.cells.Cells.make.Goals as goal

pub invariant_of-self : goal.invariant_of-self
invariant_of-self c =
    make_holds c.self.inside.heap c.make.new.self c.args.content c.make.result c.make.ensures.made c.make.ensures.err (rw c.self.view_is c.requires.ours) c.self.invariant

pub returns-clause-made : goal.returns-clause-made
returns-clause-made c = rw (← c.self.view_is) (make_numbered c.self.inside.heap c.make.new.self c.args.content c.make.result c.make.ensures.made)

pub returns-clause-ours : goal.returns-clause-ours
returns-clause-ours c = make_ours c.self.inside.heap c.make.new.self c.args.content c.make.result c.make.ensures.serial c.make.ensures.key c.make.ensures.made

pub returns-clause-kept : goal.returns-clause-kept
returns-clause-kept c = rw (← c.self.view_is) (make_keeps c.self.inside.heap c.make.new.self c.args.content c.make.result c.make.ensures.made c.make.ensures.err)
