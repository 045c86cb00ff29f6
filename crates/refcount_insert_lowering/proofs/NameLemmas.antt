-- A name without a dot is the name of a function, as it is.
use Rattle.std.proofs.Common.{◌≡◌, refl, sym, ◌∙◌, ap, ℕ, suc, ◌+◌, arith, Bool, true, false, cond, not, ◌||◌, List, [], ◌∷◌, length, Result, Ok, Err, IfOk}
use Rattle.std.specs.List.{position_or_len, list_any}
use Rattle.value_core.specs.declared.memory.Memory.{Memory}
use Rattle.ir_core.specs.Names.{is_dot, method_id, function_id}
use Rattle.std.specs.List.{before_first, after_first}

no_place : (p : ℕ → Bool) (xs : List ℕ) → position_or_len p xs ≡ length xs → list_any p xs ≡ false
no_place p [] e = refl
no_place p (x ∷ xs) e = by (p x) (no_place p xs) e
  where
    by : (b : Bool) → (position_or_len p xs ≡ length xs → list_any p xs ≡ false) → cond (not b) (1 + position_or_len p xs) 0 ≡ suc (length xs) → (b || list_any p xs) ≡ false
    by true more f = absurd (omega (arith, f))
    by false more f = more (omega (arith, f))

pub plain_name : (name : List ℕ) (r : Result (List ℕ) Memory) → position_or_len is_dot name ≡ length name → IfOk r (λ copy. copy ≡ name) → IfOk r (λ copy. copy ≡ function_id name)
plain_name name (Ok copy) none e =
    e ∙ sym (ap (λ b. cond b (method_id (before_first is_dot name) (after_first is_dot name)) name) (no_place is_dot name none))
plain_name name (Err m) none e = tt
