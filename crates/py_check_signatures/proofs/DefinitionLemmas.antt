-- Names of parameters, one after the other.
use Rattle.std.proofs.Common.{◌≡◌, ◌∙◌, ℕ, suc, ◌+◌, ◌<◌, true, false, List, [], ◌∷◌, ◌++◌, length, map, drop, get_or, drop-cons, add-one, Option, Some, if◌then◌else◌, ap, sym}
use Rattle.std.specs.Str.{bytes_eq}
use Rattle.indexmap.specs.IndexSet.{insert_key}
use Rattle.py_syntax.specs.declared.expression.Expr.{Expr}
use Rattle.py_syntax.specs.Statements.{param_tree}
use Rattle.py_binder.specs.Scope.{contains}
use Rattle.py_check_signatures.specs.Definitions.{repeated}

abbrev pub names : List (List ℕ × Option Expr) → List (List ℕ)
names params = map (λ p. p.0) (map param_tree params)

pub names_at : (params : List (List ℕ × Option Expr)) (i : ℕ) (p : List ℕ × Option Expr) → i < length params → p ≡ get_or params i p → names (drop i params) ≡ p.0 ∷ names (drop (i + 1) params)
names_at params i p h at =
    ap names (drop-cons params i p h)
    ∙ ap (λ (q : List ℕ × Option Expr). q.0 ∷ names (drop (suc i) params)) (sym at)
    ∙ ap (λ n. p.0 ∷ names (drop n params)) (sym (add-one i))

-- a name that is new among those before it
pub new_one : (ks ks2 rest : List (List ℕ)) (x y : List ℕ) (whole : Option (List ℕ)) → contains ks x ≡ false → y ≡ x → ks2 ≡ insert_key bytes_eq ks y → repeated ks (x ∷ rest) ≡ whole → repeated ks2 rest ≡ whole
new_one ks ks2 rest x y whole new is put before =
    ap (λ l. repeated l rest) (put ∙ ap (insert_key bytes_eq ks) is ∙ ap (λ b. if b then ks else ks ++ x ∷ []) new)
    ∙ sym (ap (λ b. if b then Some x else repeated (ks ++ x ∷ []) rest) new)
    ∙ before

-- one that is not
pub old_one : (ks rest : List (List ℕ)) (x : List ℕ) (whole : Option (List ℕ)) → contains ks x ≡ true → repeated ks (x ∷ rest) ≡ whole → Some x ≡ whole
old_one ks rest x whole old before = sym (ap (λ b. if b then Some x else repeated (ks ++ x ∷ []) rest) old) ∙ before
