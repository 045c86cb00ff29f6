-- Texts in quotes, as a reader meets them.
use Rattle.std.specs.Prelude.{◌≡◌, ℕ, List, ◌∷◌, ◌++◌, Option, MatchOption}
use Rattle.std.specs.List.{flat_map}
use Rattle.c_core.specs.Text.{byte_text}
use Rattle.std.specs.Borrow.{Bor}

-- a byte was found, and this stands behind it
abbrev pub FindsByte : Option (ℕ × Bor (List ℕ)) → ℕ → List ℕ → Type 0
FindsByte found b rest = MatchOption found ⊥ (λ p. (p.0 ≡ b) × (p.1.now ≡ rest))

-- a text was found, and this stands behind it
abbrev pub FindsText : Option (List ℕ × Bor (List ℕ)) → List ℕ → List ℕ → Type 0
FindsText found text rest = MatchOption found ⊥ (λ p. (p.0 ≡ text) × (p.1.now ≡ rest))

-- part of a text was read, and this writes the rest of it before its closing quote
pub record TextRemains (read text left rest : List ℕ) : Type 0 where
  pub more : List ℕ
  pub whole : read ++ more ≡ text
  pub written : flat_map byte_text more ++ 34 ∷ rest ≡ left
