-- When one program is another one with error edges.
use Rattle.std.specs.Prelude.{◌≡◌, ◌≤◌, ◌⊎◌, ℕ, ◌+◌, ◌^◌, true, List, [], ◌∷◌, length, Some, slice_get}
use Rattle.ir_core.specs.declared.code.RType.TheVariants.{Bool as BoolType}
use Rattle.ir_core.specs.declared.code.Op.{Op}
use Rattle.ir_core.specs.declared.code.Func.{Func}
use Rattle.ir_core.specs.declared.code.Program.{Program}
use Rattle.ir_core.specs.declared.kind.Edge.TheVariants.{NoEdge}
use Rattle.ir_core.specs.Items.{Do, item_in}
use Rattle.ir_core.specs.Rows.{Declared, edge_of_op}
use Rattle.ir_core.specs.Meaning.{is_edge}
use Rattle.error_edges.specs.Names.{IsGrown}
use Rattle.error_edges.specs.Layout.{needs_flag, needs_exit, edged_blocks}

-- a function has the blocks with edges, as few as numbers of 64 bits can name, and two registers more at most: one for the answer
-- whether an exception is pending, and one for the error value that the exit gives
pub record IsEdged (f g : Func) : Type 0 where
  pub name : g.name ≡ f.name
  pub params : g.params ≡ f.params
  pub ret : g.ret ≡ f.ret
  pub between : Declared
  pub flag : IsGrown (needs_flag f.regs f.blocks) BoolType f.regs between
  pub error : IsGrown (needs_exit f.regs f.blocks) f.ret between g.regs
  pub blocks : g.blocks ≡ edged_blocks f.regs f.ret f.blocks
  pub few : length g.blocks ≤ 2 ^ 64

abbrev pub AreEdged : List Func → List Func → Type 0
AreEdged [] [] = Unit {0}
AreEdged (f ∷ fs) (g ∷ gs) = IsEdged f g × AreEdged fs gs
AreEdged _ _ = ⊥

pub record IsEdgedProgram (p q : Program) : Type 0 where
  pub globals : q.globals ≡ p.globals
  pub classes : q.classes ≡ p.classes
  pub funcs : AreEdged p.funcs q.funcs

-- behind each operation that can fail stands its edge
abbrev pub HasEdges : Func → Type 0
HasEdges g =
    (k i : ℕ) (o : Op) (line : ℕ) → item_in g.blocks k i ≡ Some (Do o line) → (edge_of_op g.regs o ≡ NoEdge) ⊎ (is_edge (item_in g.blocks) (edge_of_op g.regs o) (item_in g.blocks k (i + 1)) ≡ true)

abbrev pub EachHasEdges : Program → Type 0
EachHasEdges q = (n : ℕ) (g : Func) → slice_get q.funcs n ≡ Some g → HasEdges g
