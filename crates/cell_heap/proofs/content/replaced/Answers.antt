use Rattle.std.proofs.Common.{sym, ◌∙◌}
use Rattle.cell_heap.proofs.ItemLemmas.{set_none}
use Rattle.cell_heap.proofs.content.replaced.Goals as goal

pub returns-in-None-clause-written : goal.returns-in-None-clause-written
returns-in-None-clause-written g c =
    set_none c.args.elements.now c.args.place c.args.element (sym c.get.ensures.value ∙ sym c.in-None.ensures)
