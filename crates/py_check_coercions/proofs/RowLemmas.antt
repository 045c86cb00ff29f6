-- Rows of values, one by one from the front, and from the back.
use Rattle.std.proofs.Common.{◌≡◌, ◌<◌, ◌≤◌, ℕ, zero, suc, ◌+◌, List, [], ◌∷◌, ◌++◌, length, map, drop, get_or, reverse, Option, Some, None, refl, ap, sym, ◌∙◌, arith, drop-cons, add-one}
use Rattle.std.proofs.lemmas.List.{append_assoc, reverse-append}
use Rattle.py_typed.specs.declared.expression.TExpr.{TExpr}
use Rattle.py_typed.specs.Classes.{ClassEntry}
use Rattle.py_typed.specs.Expressions.{TypedExpr, typed_expr}
use Rattle.py_check_context.specs.Context.{WantedRow, wanted_in}
use Rattle.py_check_coercions.specs.Values.{changed}
use Rattle.py_check_coercions.specs.Rows.{first_of, unfit_at, unfit, changed_row}

-- ---- the first that does not fit

-- what is found here is what is found first, and where nothing is found it is what is found behind
pub found_here : {A : Type 0} (x : A) (here behind whole : Option A) → Some x ≡ here → first_of here behind ≡ whole → Some x ≡ whole
found_here x here behind whole is e = ap (λ o. first_of o behind) is ∙ e

-- ---- all of them changed

-- the place behind so many
count_on : ℕ → List TypedExpr → ℕ
count_on i [] = i
count_on i (e ∷ es) = count_on (suc i) es

counted : (i : ℕ) (es : List TypedExpr) → count_on i es ≡ i + length es
unfolding count_on
counted i [] = omega arith
counted i (e ∷ es) = let h : count_on (suc i) es ≡ suc i + length es = counted (suc i) es in omega (arith, h)

changed_last : (row : WantedRow) (i : ℕ) (es : List TypedExpr) (e : TypedExpr) → changed_row row i (es ++ e ∷ []) ≡ changed_row row i es ++ changed (wanted_in row (count_on i es)) e ∷ []
unfolding count_on
changed_last row i [] e = refl
changed_last row i (x ∷ es) e = ap (λ l. changed (wanted_in row i) x ∷ l) (changed_last row (suc i) es e)

last_place : (es : List TExpr) → count_on 0 (map typed_expr es) ≡ length es
last_place es = counted 0 (map typed_expr es) ∙ lengths es
  where
    lengths : (l : List TExpr) → 0 + length (map typed_expr l) ≡ length l
    lengths [] = refl
    lengths (x ∷ l) = let h = lengths l in omega (arith, h)

map_last : (es : List TExpr) (e : TExpr) → map typed_expr (es ++ e ∷ []) ≡ map typed_expr es ++ typed_expr e ∷ []
map_last [] e = refl
map_last (x ∷ es) e = ap (λ l. typed_expr x ∷ l) (map_last es e)

pub changed_step : (row : WantedRow) (all less back more : List TExpr) (e made : TExpr) (whole : List TypedExpr) → all ≡ less ++ e ∷ [] → more ≡ back ++ made ∷ [] → typed_expr made ≡ changed (wanted_in row (length less)) (typed_expr e) → whole ≡ changed_row row 0 (map typed_expr all) ++ reverse (map typed_expr back) → whole ≡ changed_row row 0 (map typed_expr less) ++ reverse (map typed_expr more)
changed_step row all less back more e made whole popped pushed is h =
    h
    ∙ ap (λ l. changed_row row 0 l ++ reverse (map typed_expr back)) (ap (map typed_expr) popped ∙ map_last less e)
    ∙ ap (λ l. l ++ reverse (map typed_expr back)) (changed_last row 0 (map typed_expr less) (typed_expr e) ∙ ap (λ n. changed_row row 0 (map typed_expr less) ++ changed (wanted_in row n) (typed_expr e) ∷ []) (last_place less) ∙ ap (λ x. changed_row row 0 (map typed_expr less) ++ x ∷ []) (sym is))
    ∙ append_assoc (changed_row row 0 (map typed_expr less)) (typed_expr made ∷ []) (reverse (map typed_expr back))
    ∙ ap (λ l. changed_row row 0 (map typed_expr less) ++ l) (sym (reverse-append (map typed_expr back) (typed_expr made ∷ [])) ∙ ap reverse (sym (map_last back made) ∙ ap (map typed_expr) (sym pushed)))

map_reverse : (es : List TExpr) → map typed_expr (reverse es) ≡ reverse (map typed_expr es)
map_reverse [] = refl
map_reverse (e ∷ es) =
    ap (map typed_expr) (reverse-append (e ∷ []) es) ∙ map_last (reverse es) e ∙ ap (λ l. l ++ typed_expr e ∷ []) (map_reverse es) ∙ sym (reverse-append (typed_expr e ∷ []) (map typed_expr es))

pub changed_end : (row : WantedRow) (rest back all : List TExpr) (whole : List TypedExpr) → rest ≡ [] → all ≡ reverse back → whole ≡ changed_row row 0 (map typed_expr rest) ++ reverse (map typed_expr back) → map typed_expr all ≡ whole
changed_end row rest back all whole none is h =
    sym (h ∙ ap (λ l. changed_row row 0 (map typed_expr l) ++ reverse (map typed_expr back)) none ∙ sym (map_reverse back) ∙ ap (map typed_expr) (sym is))
