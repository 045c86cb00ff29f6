use Rattle.std.proofs.Common.{sym, ap, ◌∙◌, ◌∷◌, [], ◌++◌, length, map, arith}
use Rattle.cell_heap.specs.Contents.{name_of}
use Rattle.cell_heap.specs.Held.{cells_of, waiting}
use Rattle.cell_heap.specs.Placed.{number_in}
use Rattle.cell_heap.proofs.HeldLemmas.{is_held, length-cells}
use Rattle.cell_heap.proofs.ReleaseLemmas.{length-release}
use Rattle.cell_heap.proofs.heap.Heap.give.Goals as goal

pub returns-then-is_some-clause-there : goal.returns-then-is_some-clause-there
returns-then-is_some-clause-there c =
    rw (← c.self.view_is) (sym c.if-is_some.true ∙ c.is_some.ensures ∙ is_held (λ x. x.now) c.self.inside.cells c.args.key c.lookup.result c.lookup.ensures.named c.lookup.ensures.cell)

pub returns-then-is_some-clause-made : goal.returns-then-is_some-clause-made
returns-then-is_some-clause-made c =
    let first = cells_of c.self.inside.cells.entries in
    rw (← c.self.view_is) (ap length c.give.ensures.cells ∙ length-release first first (map (number_in first) (name_of c.args.key ∷ [] ++ waiting c.self.inside.cells.condemned)))

pub returns-else-is_some-clause-there : goal.returns-else-is_some-clause-there
returns-else-is_some-clause-there c =
    rw (← c.self.view_is) (sym c.if-is_some.false ∙ c.is_some.ensures ∙ is_held (λ x. x.now) c.self.inside.cells c.args.key c.lookup.result c.lookup.ensures.named c.lookup.ensures.cell)

pub invariant_of-self : goal.invariant_of-self
invariant_of-self c =
    let a = c.self.inside.cells in
    let first = cells_of a.entries in
    record {
      idle = c.give.ensures.done;
      few =
          omega (arith, c.self.invariant.few, length-cells a.entries, length-cells c.give.new.cells.entries, ap length c.give.ensures.cells, length-release first first (map (number_in first) (name_of c.args.key ∷ [] ++ waiting a.condemned)));
      marked = c.give.ensures.marked c.self.invariant.marked;
    }
