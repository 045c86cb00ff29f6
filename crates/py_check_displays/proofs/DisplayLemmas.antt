-- Items, one by one from the front.
use Rattle.std.proofs.Common.{◌≡◌, ◌<◌, ◌≤◌, ℕ, zero, suc, ◌+◌, false, ◌||◌, List, [], ◌∷◌, ◌++◌, length, map, drop, get_or, Some, None, refl, ap, sym, ◌∙◌, arith, drop-cons, add-one}
use Rattle.std.proofs.lemmas.List.{append-nil, append_assoc}
use Rattle.py_typed.specs.declared.types.Ty.{Ty}
use Rattle.py_typed.specs.declared.expression.TExpr.{TExpr}
use Rattle.py_typed.specs.Sorts.{Sort, sort}
use Rattle.py_typed.specs.Classes.{ClassEntry}
use Rattle.py_typed.specs.Fits.{join}
use Rattle.py_typed.specs.Expressions.{typed_expr, type_of}
use Rattle.py_check_context.specs.Context.{WantedRow, wanted_in}
use Rattle.py_check_coercions.proofs.PartLemmas.{type_at}
use Rattle.py_check_displays.specs.Displays.{common, is_bare_none, has_bare_none}

-- ---- the types of items

pub types_end : (ts : List Ty) (es : List TExpr) (i : ℕ) (whole : List Sort) → length es ≤ i → map sort ts ++ map type_of (map typed_expr (drop i es)) ≡ whole → map sort ts ≡ whole
types_end ts es i whole h now = sym (append-nil (map sort ts)) ∙ ap (λ l. map sort ts ++ l) (sym (none es i h)) ∙ now
  where
    none : (l : List TExpr) (k : ℕ) → length l ≤ k → map type_of (map typed_expr (drop k l)) ≡ []
    none [] zero q = refl
    none [] (suc k) q = refl
    none (x ∷ l) zero q = absurd (omega arith)
    none (x ∷ l) (suc k) q = none l k (omega arith)
