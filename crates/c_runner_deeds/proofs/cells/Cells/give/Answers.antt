use Rattle.std.proofs.Common.{sym, ◌∙◌, [], ◌∷◌}
use Rattle.c_core.specs.Release.{release}
use Rattle.cell_heap.specs.Contents.{name_of}
use Rattle.cell_heap.specs.Placed.{number_in, refs_under}
use Rattle.cell_heap.proofs.OursLemmas.{holds-release, keeps-release}
use Rattle.cell_heap.proofs.NumberedLemmas.{numbered-there, numbered-give}
use Rattle.c_runner_deeds.proofs.CellsLemmas.{number_so, hold_so, keep_so}
use Rattle.c_runner_deeds.proofs.cells.Cells.give.Goals as goal

pub invariant_of-self : goal.invariant_of-self
invariant_of-self c =
    hold_so c.give.result c.self.inside.heap (release (refs_under c.self.inside.heap) c.self.inside.heap (number_in c.self.inside.heap (name_of c.args.key) ∷ [])) c.give.new.self c.give.ensures.ok c.give.ensures.dead (holds-release (refs_under c.self.inside.heap) c.self.inside.heap (number_in c.self.inside.heap (name_of c.args.key) ∷ []) c.self.invariant) c.self.invariant

pub returns-clause-there : goal.returns-clause-there
returns-clause-there c =
    rw (← c.self.view_is) (c.give.ensures.there ∙ sym (numbered-there c.self.inside.heap (name_of c.args.key) (rw c.self.view_is c.requires.ours)))

pub returns-clause-ok : goal.returns-clause-ok
returns-clause-ok c =
    rw (← c.self.view_is) (number_so c.give.result c.self.inside.heap (release (refs_under c.self.inside.heap) c.self.inside.heap (number_in c.self.inside.heap (name_of c.args.key) ∷ [])) c.give.new.self _ c.give.ensures.ok (numbered-give c.self.inside.heap (name_of c.args.key) c.self.invariant (rw c.self.view_is c.requires.ours)))

pub returns-clause-kept : goal.returns-clause-kept
returns-clause-kept c =
    rw (← c.self.view_is) (keep_so c.give.result c.self.inside.heap (release (refs_under c.self.inside.heap) c.self.inside.heap (number_in c.self.inside.heap (name_of c.args.key) ∷ [])) c.give.new.self c.give.ensures.ok c.give.ensures.dead (keeps-release (refs_under c.self.inside.heap) c.self.inside.heap (number_in c.self.inside.heap (name_of c.args.key) ∷ [])))
