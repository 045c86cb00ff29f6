-- How a block stands in its chain: its operations in their order, and behind each of them its edge, where one is missing.
use Rattle.std.proofs.Common.{◌≡◌, ℕ, ◌+◌, List, [], ◌∷◌, ◌++◌, Option, Some, None}
use Rattle.std.specs.Prelude.{slice_get}
use Rattle.ir_core.specs.declared.code.RType.TheVariants.{Bool as BoolType}
use Rattle.ir_core.specs.declared.code.Reg.{Reg}
use Rattle.ir_core.specs.declared.code.Op.{Op}
use Rattle.ir_core.specs.declared.code.Op.TheVariants.{Lit}
use Rattle.ir_core.specs.declared.code.Last.{Last}
use Rattle.ir_core.specs.declared.code.Last.TheVariants.{Goto, If, IfError, Return}
use Rattle.ir_core.specs.declared.code.Block.{Block}
use Rattle.ir_core.specs.declared.code.Func.{Func}
use Rattle.ir_core.specs.declared.kind.Edge.{Edge}
use Rattle.ir_core.specs.declared.kind.Edge.TheVariants.{NoEdge, Tests, TestsTwice, Jumps}
use Rattle.ir_core.specs.Items.{Item, Do, End, in_block, item_in, handler_of}
use Rattle.ir_core.specs.Rows.{Declared, type_of_reg, edge_of_op}
use Rattle.ir_core.specs.Missing.{missing}
use Rattle.error_edges.specs.Layout.{moved, target_of, asking, flag_register, error_literal}

-- the rest of a block stands from a place on, and goes on in the blocks behind. What is asked for is there, and what leaves
-- gets out
module _ (item : ℕ → ℕ → Option Item) (start : ℕ → ℕ) (target : ℕ) (flag : Reg) (Asked Escapes : Type 0) (regs : Declared) (all : List Block) where
  abbrev pub LaidAfter : Edge → ℕ → ℕ → ℕ → (ℕ → ℕ → Type 0) → Type 0
  LaidAfter NoEdge line k i rest = rest k (i + 1)
  LaidAfter (Tests r) line k i rest =
      (item k (i + 1) ≡ Some (End (IfError r target (k + 1) line))) × Escapes × rest (k + 1) 0
  LaidAfter (TestsTwice r) line k i rest =
      (item k (i + 1) ≡ Some (End (IfError r (k + 1) (k + 2) line))) × (item (k + 1) 0 ≡ Some (Do (asking flag) line)) × (item (k + 1) 1 ≡ Some (End (If flag target (k + 2)))) × Asked × Escapes × rest (k + 2) 0
  LaidAfter Jumps line k i rest = (item k (i + 1) ≡ Some (End (Goto target))) × Escapes × rest (k + 1) 0

  abbrev pub Laid : List (Op × ℕ) → Last → ℕ → ℕ → Type 0
  Laid [] last k i = item k i ≡ Some (End (moved start last))
  Laid (o ∷ os) last k i = (item k i ≡ Some (Do o.0 o.1)) × LaidAfter (missing (item_in all) (edge_of_op regs o.0) (in_block os last 0)) o.1 k i (Laid os last)

-- the exit of a function gives its error value
pub record ExitStands (g : Func) (exit : ℕ) : Type 0 where
  pub register : Reg
  pub kind : type_of_reg g.regs register ≡ Some g.ret
  pub writes : item_in g.blocks exit 0 ≡ Some (Do (Lit register (error_literal g.ret)) 0)
  pub returns : item_in g.blocks exit 1 ≡ Some (End (Return register))

abbrev pub Escapes : Func → ℕ → Option ℕ → Type 0
Escapes g exit None = ExitStands g exit
Escapes g exit (Some h) = Unit {0}

abbrev pub Asked : Func → Reg → Type 0
Asked g flag = type_of_reg g.regs flag ≡ Some BoolType

-- a block of f stands in the function g, in its chain
abbrev pub BlockStands : Func → Func → (ℕ → ℕ) → ℕ → Block → List (Op × ℕ) → Last → ℕ → ℕ → Type 0
BlockStands f g start exit b =
    Laid (item_in g.blocks) start (target_of start exit (handler_of b)) (flag_register f.regs) (Asked g (flag_register f.regs)) (Escapes g exit (handler_of b)) f.regs f.blocks

pub record FunctionLaid (f g : Func) : Type 0 where
  pub start : ℕ → ℕ
  pub exit : ℕ
  pub entry : start 0 ≡ 0
  pub params : g.params ≡ f.params
  pub ret : g.ret ≡ f.ret
  pub more : Declared
  pub regs : g.regs ≡ f.regs ++ more
  pub blocks : (k : ℕ) (b : Block) → slice_get f.blocks k ≡ Some b → BlockStands f g start exit b b.ops b.last (start k) 0
