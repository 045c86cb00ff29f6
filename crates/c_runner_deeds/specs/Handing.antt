-- What is handed on of held bytes.
use Rattle.std.specs.Prelude.{◌≡◌, ℕ, Bool, true, false, List, [], ◌∷◌, ◌++◌, IsTrue}

-- whether there are any bytes
abbrev pub has_bytes : List ℕ → Bool
has_bytes [] = false
has_bytes (b ∷ bytes) = true

-- some first bytes of those that were held went to the sink, and the others are still held; where none went, nothing
-- happened to the sink
abbrev pub HandsOn : Bool → List ℕ → List ℕ → List ℕ → List ℕ → Type 0 → Type 0
HandsOn tells before after old new Untouched =
    (handed : List ℕ) × (old ≡ handed ++ new) × (IsTrue tells → after ≡ before ++ handed) × (handed ≡ [] → Untouched)
