-- Lists in order.
use Rattle.std.proofs.Common.{◌≡◌, ℕ, [], ◌∷◌, refl, codes}
use Rattle.py_syntax_diagnostics.specs.declared.diagnostic.Diag.{Diag}
use Rattle.py_syntax_diagnostics.specs.Order.{by_place}

abbrev fault : ℕ → ℕ → Diag
fault line col = record { span = record { line = line; col = col }; text = codes "a"; code = codes "misc" }

abbrev other : ℕ → ℕ → Diag
other line col = record { span = record { line = line; col = col }; text = codes "b"; code = codes "misc" }

-- by line, then by column
lines : by_place (fault 3 1 ∷ fault 1 9 ∷ fault 2 4 ∷ fault 2 1 ∷ []) ≡ fault 1 9 ∷ fault 2 1 ∷ fault 2 4 ∷ fault 3 1 ∷ []
lines = refl

-- of one place the one that came first
one_place : by_place (other 2 1 ∷ fault 2 1 ∷ fault 1 1 ∷ []) ≡ fault 1 1 ∷ other 2 1 ∷ fault 2 1 ∷ []
one_place = refl
