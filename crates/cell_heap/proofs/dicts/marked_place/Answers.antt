use Rattle.std.proofs.Common.{sym, ◌∙◌, eq-eqb}
use Rattle.cell_heap.specs.Held.{cells_of}
use Rattle.cell_heap.specs.Marks.{mark_of}
use Rattle.cell_heap.specs.Seen.{key_seen}
use Rattle.cell_heap.proofs.MarkLemmas.{mark_absent, mark_present}
use Rattle.cell_heap.proofs.dicts.marked_place.Goals as goal

pub returns-in-None : goal.returns-in-None
returns-in-None c =
    mark_absent (cells_of c.args.cells.now.entries) (key_seen c.args.key) _ c.args.pairs.now c.args.marks.now.keys (eq-eqb c.mark.result (mark_of (key_seen c.args.key)) c.mark.ensures) c.requires c.in-None.ensures.index

pub returns-then-is_key_at : goal.returns-then-is_key_at
returns-then-is_key_at c =
    mark_present (cells_of c.args.cells.now.entries) (key_seen c.args.key) _ c.args.pairs.now c.args.marks.now.keys c.in-Some.place (eq-eqb c.mark.result (mark_of (key_seen c.args.key)) c.mark.ensures) c.requires c.in-Some.ensures.index (sym c.is_key_at.ensures ∙ c.if-is_key_at.true)
