-- Lists in braces, as a reader meets them.
use Rattle.std.specs.Prelude.{◌≡◌, ℕ, ◌==◌, ◌||◌, Bool, List, [], ◌∷◌, ◌++◌, map, Option, MatchOption, IsTrue, codes}
use Rattle.std.specs.Borrow.{Bor}
use Rattle.c_core.specs.Text.{comma, joined}

-- what stands behind an item: a comma, or the closing brace
abbrev pub is_item_end : ℕ → Bool
is_item_end b = (b == 44) || (b == 125)

abbrev pub EndsItem : List ℕ → Type 0
EndsItem [] = ⊥
EndsItem (b ∷ rest) = IsTrue (is_item_end b)

-- something was found at the front of a text, and this stands behind it
abbrev pub FindsFront : {A : Type 0} → Option (A × Bor (List ℕ)) → A → List ℕ → Type 0
FindsFront found a rest = MatchOption found ⊥ (λ p. (p.0 ≡ a) × (p.1.now ≡ rest))

-- items with a comma between each two, the closing brace, and what stands behind it
abbrev pub closed_text : {A : Type 0} → (A → List ℕ) → List A → List ℕ → List ℕ
closed_text shown items rest = joined comma (map shown items) ++ 125 ∷ rest

-- a list that is not the first part of its line
abbrev pub next_list : {A : Type 0} → (A → List ℕ) → List A → List ℕ → List ℕ
next_list shown items rest = codes ", {" ++ closed_text shown items rest

-- an item that is not the first of its list
abbrev pub next_item : {A : Type 0} → (A → List ℕ) → A → List ℕ
next_item shown a = comma ++ shown a

-- some items were read, and these are the others
pub record ItemsRemain {A : Type 0} (shown : A → List ℕ) (read all : List A) (left rest : List ℕ) : Type 0 where
  pub more : List A
  pub whole : read ++ more ≡ all
  pub written : closed_text shown more rest ≡ left
