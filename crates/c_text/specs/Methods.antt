-- The calls of methods, as they stand between their brackets.
use Rattle.std.specs.Prelude.{◌≡◌, ℕ, List, ◌++◌, Option, MatchOption}
use Rattle.std.specs.Borrow.{Bor}
use Rattle.std.specs.Fmt.{decimal}
use Rattle.std.specs.List.{flat_map}
use Rattle.c_core.specs.Text.{comma, type_text, var_text}
use Rattle.c_core.specs.WellFormed.{Declared}

-- variables, each behind a comma
abbrev pub next_variable : List Declared → ℕ → List ℕ
next_variable vars x = comma ++ var_text vars x

abbrev pub others_text : List Declared → List ℕ → List ℕ
others_text vars args = flat_map (next_variable vars) args

-- the place of a method behind a comma, and the variables behind it
abbrev pub method_behind : List Declared → ℕ × List ℕ → List ℕ
method_behind vars m = comma ++ (decimal m.0 ++ others_text vars m.1)

-- a method of the object's own class, and one that the class has for a trait
abbrev pub virtual_text : List Declared → ℕ → ℕ → List ℕ → List ℕ
virtual_text vars o n args = var_text vars o ++ method_behind vars (n, args)

abbrev pub for_trait_text : List Declared → ℕ → List ℕ → ℕ → List ℕ → List ℕ
for_trait_text vars o t n args = var_text vars o ++ (comma ++ (type_text t ++ method_behind vars (n, args)))

-- a variable was found that is written as this one, and this stands behind it
abbrev pub FindsFirst : List Declared → Option (ℕ × Bor (List ℕ)) → ℕ → List ℕ → Type 0
FindsFirst vars found x rest = MatchOption found ⊥ (λ p. (var_text vars x ≡ var_text vars p.0) × (p.1.now ≡ rest))

-- some variables were read, and these are the others
pub record VariablesRemain (vars : List Declared) (read all left : List ℕ) : Type 0 where
  pub front : List ℕ
  pub more : List ℕ
  pub whole : front ++ more ≡ all
  pub same : others_text vars front ≡ others_text vars read
  pub written : others_text vars more ≡ left
