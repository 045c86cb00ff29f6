-- Which edges are missing in a block: those of operations that can fail behind which nothing shows it.
use Rattle.std.specs.Prelude.{ℕ, Bool, true, false, cond, List, [], ◌∷◌, Option, Some, None}
use Rattle.ir_core.specs.declared.code.Op.{Op}
use Rattle.ir_core.specs.declared.code.Last.{Last}
use Rattle.ir_core.specs.declared.code.Block.{Block}
use Rattle.ir_core.specs.declared.kind.Edge.{Edge}
use Rattle.ir_core.specs.declared.kind.Edge.TheVariants.{NoEdge}
use Rattle.ir_core.specs.Items.{Item, in_block, item_in}
use Rattle.ir_core.specs.Rows.{Declared, edge_of_op}
use Rattle.ir_core.specs.Meaning.{is_edge}

-- the edge that is missing behind an operation, among all items: none where the item there is it already
abbrev pub missing : (ℕ → ℕ → Option Item) → Edge → Option Item → Edge
missing at e item = cond (is_edge at e item) NoEdge e

-- the missing edges of one of a function's blocks, by operation
abbrev pub edges_in : Declared → List Block → List (Op × ℕ) → Last → List Edge
edges_in regs all [] last = []
edges_in regs all (o ∷ os) last = missing (item_in all) (edge_of_op regs o.0) (in_block os last 0) ∷ edges_in regs all os last

-- the end of a block, where no operation is left
abbrev pub ahead : List (Op × ℕ) → Last → Option Last
ahead [] last = Some last
ahead (o ∷ os) last = None

abbrev pub edges_of : Declared → List Block → Block → List Edge
edges_of regs all b = edges_in regs all b.ops b.last

abbrev pub is_some_edge : Edge → Bool
is_some_edge NoEdge = false
is_some_edge _ = true
