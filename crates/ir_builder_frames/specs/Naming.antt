-- The names of a function's registers: those of its variables come first, and then come temporary ones, with rising numbers.
use Rattle.std.specs.Prelude.{◌≡◌, ℕ, ◌≤◌, ◌<◌, true, List, length, map, Some, slice_get}
use Rattle.c_core.specs.WellFormed.{names_differ}
use Rattle.ir_core.specs.declared.code.RType.{RType}
use Rattle.ir_core.specs.Rows.{Declared}
use Rattle.ir_builder_frames.specs.Kinds.{temporary_name}

abbrev pub names_of : Declared → List (List ℕ)
names_of regs = map (λ d. d.0) regs

-- so many of the registers are variables, and temporary names from this number on are free
pub record AreNamed (count next : ℕ) (regs : Declared) : Type 0 where
  pub within : count ≤ length regs
  pub differ : names_differ (names_of regs) ≡ true
  pub numbered : (i : ℕ) (d : List ℕ × RType) → count ≤ i → slice_get regs i ≡ Some d → (k : ℕ) × (k < next) × (d.0 ≡ temporary_name k)
