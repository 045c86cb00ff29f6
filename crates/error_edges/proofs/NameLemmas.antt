-- The search for a name that no register has.
use Rattle.std.proofs.Common.{◌≡◌, ◌∙◌, ap, subst, ℕ, ◌+◌, ◌<◌, ◌≤◌, arith, true, List, length, take, Bor, inl, inr}
use Rattle.std.proofs.lemmas.Bool.{cases_lt}
use Rattle.std.proofs.lemmas.List.{take_all}
use Rattle.c_core.proofs.NameLemmas.{knows, any_is}
use Rattle.ir_core.specs.Rows.{Declared}
use Rattle.error_edges.specs.Names.{temporary_name, is_taken}

-- a set of the names of all registers knows which are taken
pub known_all : (regs : Declared) (i : ℕ) (keys : List (Bor (List ℕ))) → length regs ≤ i → ((name : List ℕ) → knows keys name ≡ any_is (λ register. register.0) (take i regs) name) → (name : List ℕ) → knows keys name ≡ is_taken regs name
known_all regs i keys le known name = known name ∙ ap (λ ds. is_taken ds name) (take_all i regs le)

-- one name more is taken
pub taken_too : (regs : Declared) (n : ℕ) → ((k : ℕ) → k < n → is_taken regs (temporary_name k) ≡ true) → is_taken regs (temporary_name n) ≡ true → (k : ℕ) → k < n + 1 → is_taken regs (temporary_name k) ≡ true
taken_too regs n before here k lt = elim (cases_lt k n) [
  | inl less ↦ before k less
  | inr more ↦ (let same : n ≡ k = omega (arith, lt, more) in subst (λ i. is_taken regs (temporary_name i) ≡ true) same here)
]
