-- The registers with which a function begins: those of its variables, and flags of those that are no parameters.
use Rattle.std.specs.Prelude.{◌≡◌, ℕ, ◌+◌, ◌-◌, ◌<◌, ◌≤◌, [], length}
use Rattle.py_typed.specs.Statements.{TypedModule}
use Rattle.ir_core.specs.declared.code.RType.{RType}
use Rattle.ir_core.specs.declared.code.RType.TheVariants.{Bool}
use Rattle.ir_core.specs.Rows.{Declared}
use Rattle.ir_builder_frames.specs.Among.{surrounding}
use Rattle.ir_builder_frames.specs.Building.{Building, Extends}
use Rattle.ir_builder_frames.specs.declared.frame.Vars.{Vars}
use Rattle.ir_builder_frames.specs.Lines.{OwnLines}
use Rattle.ir_builder_frames.specs.Placing.{HasType}
pub use Rattle.ir_builder_frames.specs.Settings.{register_of, variable_registers}

-- so many parameters and variables in all, and behind them the flags
abbrev pub variables_of : ℕ → ℕ → Vars
variables_of params n = record { params = params; count = n; top = n + (n - params) }

-- the code of a function of a module before its first operation, with registers for its variables and a result of a type
abbrev pub beginning : TypedModule → Declared → RType → Building
beginning m regs t = record { among = surrounding m (length regs) t; regs = regs; blocks = []; ops = [] }

-- so many flags were added
pub record AddsFlags (n : ℕ) (old new : Building) : Type 0 where
  pub extends : Extends old new
  pub blocks : length new.blocks ≡ length old.blocks
  pub ops : length new.ops ≡ length old.ops
  pub regs : length new.regs ≡ length old.regs + n
  pub flags : (j : ℕ) → length old.regs ≤ j → j < length old.regs + n → HasType new j Bool
  pub lines : (l : ℕ) → OwnLines l old new
