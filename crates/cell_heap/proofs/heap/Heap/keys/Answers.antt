use Rattle.std.proofs.Common.{ap, ◌∙◌, map, arith}
use Rattle.cell_heap.specs.Contents.{number_of}
use Rattle.cell_heap.proofs.HeldLemmas.{keys-cells, numbers-cells, if_ok}
use Rattle.cell_heap.proofs.heap.Heap.keys.Goals as goal

pub returns-clause-keys : goal.returns-clause-keys
returns-clause-keys c =
    rw (← c.self.view_is) (if_ok c.keys.result (λ keys is. is ∙ keys-cells 0 c.self.inside.cells.entries) c.keys.ensures)

pub returns-clause-numbers : goal.returns-clause-numbers
returns-clause-numbers c =
    rw (← c.self.view_is) (if_ok c.keys.result (λ keys is. ap (map number_of) is ∙ numbers-cells 0 c.self.inside.cells.entries (omega (arith, c.self.invariant.few))) c.keys.ensures)
