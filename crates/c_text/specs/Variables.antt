-- Variables by their names, and parts of a line by their texts. Where two variables have one name the text does not tell
-- which of them is meant.
use Rattle.std.specs.Prelude.{◌≡◌, ◌≢◌, ℕ, Bool, ◌&&◌, List, Option, Some, MatchOption, IsTrue}
use Rattle.c_core.specs.declared.code.Kind.{Kind}
use Rattle.c_core.specs.Text.{var_text}
use Rattle.c_core.specs.WellFormed.{Declared, is_declared, kind_at, same_kind}
use Rattle.std.specs.Str.{bytes_eq}

-- a variable was found that is written so, or none is; and the same of one kind
abbrev pub FindsVariable : List Declared → List ℕ → Option ℕ → Type 0
FindsVariable vars word found =
    MatchOption found ((x : ℕ) → IsTrue (is_declared vars x) → var_text vars x ≢ word) (λ y. IsTrue (is_declared vars y) × (var_text vars y ≡ word))

abbrev pub FindsVariableOf : List Declared → List ℕ → Kind → Option ℕ → Type 0
FindsVariableOf vars word kind found =
    MatchOption found ((x : ℕ) → kind_at vars x ≡ Some kind → var_text vars x ≢ word) (λ y. (kind_at vars y ≡ Some kind) × (var_text vars y ≡ word))

-- a part was found that is written as this one
abbrev pub Finds : {A : Type 0} → (A → List ℕ) → Option A → A → Type 0
Finds text found a = MatchOption found ⊥ (λ b. text a ≡ text b)

-- tests of a variable: its name, and its kind too
abbrev pub has_name : List ℕ → Declared → Bool
has_name name v = bytes_eq v.0 name

abbrev pub has_name_and_kind : List ℕ → Kind → Declared → Bool
has_name_and_kind name kind v = same_kind v.1 kind && bytes_eq v.0 name
