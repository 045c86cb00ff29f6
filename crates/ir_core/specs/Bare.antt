-- A program where no operation goes to a handler. Where each operation that fails has its edge, no handler is ever gone to, and it does
-- the same.
use Rattle.std.specs.Prelude.{◌≡◌, ℕ, List, map, Some, None}
use Rattle.ir_core.specs.declared.code.Block.{Block}
use Rattle.ir_core.specs.declared.code.Func.{Func}
use Rattle.ir_core.specs.declared.code.Program.{Program}
use Rattle.ir_core.specs.Items.{handler_in}
use Rattle.ir_core.specs.Lower.{lower}
use Rattle.ir_core.specs.Runs.{MeansSame, Fit}
use Rattle.ir_core.specs.Shape.{Shape}

-- no block has a handler
abbrev pub IsBare : Func → Type 0
IsBare f = (k h : ℕ) → handler_in f.blocks k ≡ Some h → ⊥

abbrev pub bare_block : Block → Block
bare_block b = record b { handler = None }

abbrev pub bare_blocks : List Block → List Block
bare_blocks blocks = map bare_block blocks

abbrev pub bare : Func → Func
bare f = record f { blocks = bare_blocks f.blocks }

abbrev pub bare_program : Program → Program
bare_program p = record p { funcs = map bare p.funcs }

pub record BareIsSame : Type 0 where
  pub bare : (f : Func) → IsBare (bare f)
  pub text : (p : Program) → lower (bare_program p) ≡ lower p
  pub shape : (p : Program) → Shape p → Shape (bare_program p)
  pub fits : (p : Program) → Fit p → Fit (bare_program p)
  pub means : (p : Program) → Fit p → MeansSame (bare_program p) p
