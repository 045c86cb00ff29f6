-- The names of new registers: temporary names, passing over those that the function has.
use Rattle.std.specs.Prelude.{◌≡◌, ◌<◌, ℕ, Bool, true, false, List, [], ◌∷◌, ◌++◌, codes, decimal}
use Rattle.std.specs.List.{list_any}
use Rattle.std.specs.Str.{bytes_eq}
use Rattle.ir_core.specs.declared.code.RType.{RType}
use Rattle.ir_core.specs.Rows.{Declared}

-- temporary names are `r0`, `r1` and so on
abbrev pub temporary_name : ℕ → List ℕ
temporary_name k = codes "r" ++ decimal k

abbrev pub is_taken : Declared → List ℕ → Bool
is_taken regs name = list_any (λ d. bytes_eq name d.0) regs

-- the first temporary name that no register has
pub record IsFirstFree (regs : Declared) (name : List ℕ) : Type 0 where
  pub number : ℕ
  pub is : name ≡ temporary_name number
  pub free : is_taken regs name ≡ false
  pub first : (k : ℕ) → k < number → is_taken regs (temporary_name k) ≡ true

-- the registers, with one of this type behind them where it is needed
abbrev pub IsGrown : Bool → RType → Declared → Declared → Type 0
IsGrown false t old new = new ≡ old
IsGrown true t old new = (name : List ℕ) × IsFirstFree old name × (new ≡ old ++ (name, t) ∷ [])
