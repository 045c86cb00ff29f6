-- A block of no or more operations is no test of the pending exception.
use Rattle.std.proofs.Common.{◌≡◌, refl, sym, ℕ, false, List, [], ◌∷◌, length, Option, Some, None}
use Rattle.std.specs.Option.{option_map_or}
use Rattle.ir_core.specs.declared.code.Op.{Op}
use Rattle.ir_core.specs.declared.code.Last.{Last}
use Rattle.ir_core.specs.declared.code.Reg.{Reg}
use Rattle.ir_core.specs.Items.{Do, in_block}
use Rattle.ir_core.specs.Meaning.{question, is_second_test}

never : (q : Option Reg) → option_map_or (λ (flag : Reg). false) q false ≡ false
never None = refl
never (Some flag) = refl

pub no_second_test : (ops : List (Op × ℕ)) (last : Last) (n : ℕ) → (length ops ≡ 1 → ⊥) → false ≡ is_second_test (in_block ops last 0) (in_block ops last 1) n
no_second_test [] last n h = refl
no_second_test (o ∷ []) last n h = absurd (h refl)
no_second_test (o ∷ p ∷ os) last n h = sym (never (question (Some (Do o.0 o.1))))
