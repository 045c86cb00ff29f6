-- The targets of a row, one behind another.
use Rattle.std.proofs.Common.{◌≡◌, ◌∙◌, ℕ, zero, suc, ◌+◌, ◌<◌, List, [], ◌∷◌, ◌++◌, Option, Some, None, is_some, length, map, drop, get_or, drop-cons, add-one, refl, ap, sym, subst, arith}
use Rattle.std.specs.Prelude.{slice_get, nat_lt, IfSome}
use Rattle.std.specs.Borrow.{Bor}
use Rattle.std.specs.Option.{option_map, option_copied}
use Rattle.std.proofs.lemmas.Bool.Decides.{nat_tests}
use Rattle.std.proofs.lemmas.Option.{slice_get_past, slice_get_read}
use Rattle.py_syntax.specs.declared.expression.Expr.{Expr}
use Rattle.py_syntax.specs.Expressions.{ExprTree, expr_tree}
use Rattle.py_syntax_diagnostics.specs.declared.diagnostic.Diag.{Diag}
use Rattle.py_typed.specs.declared.types.Ty.{Ty}
use Rattle.py_typed.specs.Sorts.{Sort, sort}
use Rattle.py_check_context.specs.Context.{Context}
use Rattle.py_check_flow.specs.Bindings.{name_in}
use Rattle.py_check_messages.specs.Seen.{Seen}
use Rattle.py_check_messages.specs.Rows.{kept}
use Rattle.py_check_messages.proofs.RowLemmas.{Remains, row_step}
use Rattle.py_check_values.specs.Aims.{Aim}
use Rattle.py_check_expressions.proofs.RowLemmas.{row_starts, drop_none}
use Rattle.py_check_places.specs.Places.{Known, with_names, known_behind}
use Rattle.py_check_places.specs.Views.{trees}
use Rattle.py_check_targets.specs.Targets.{aims, single_aim, next_part, more_parts}
use Rattle.py_check_targets.specs.Views.{parts_from}

-- ---- the parts of a value

part_found : (ts : List Ty) (i : ℕ) → option_map sort (slice_get ts i) ≡ next_part (Some (drop i (map sort ts)))
part_found [] zero = refl
part_found [] (suc i) = refl
part_found (t ∷ ts) zero = refl
part_found (t ∷ ts) (suc i) = part_found ts i

-- the part of this number, as it was looked up
pub part_at : (ts : List Ty) (i : ℕ) (o : Option (Bor Ty)) → is_some o ≡ nat_lt i (length ts) → IfSome o (λ x. x.now ≡ get_or ts i x.now) → option_map sort (option_copied o) ≡ next_part (Some (drop i (map sort ts)))
part_at ts i None there value = ap (option_map sort) (sym (slice_get_past ts i (grind (arith, nat_tests, there)))) ∙ part_found ts i
part_at ts i (Some x) there value = ap (option_map sort) (sym (slice_get_read ts (length ts) i x.now refl (grind (arith, nat_tests, there)) value)) ∙ part_found ts i

left_behind : (i : ℕ) (ts : List Sort) → more_parts (Some (drop i ts)) ≡ Some (drop (suc i) ts)
left_behind zero [] = refl
left_behind (suc i) [] = refl
left_behind zero (t ∷ ts) = refl
left_behind (suc i) (t ∷ ts) = left_behind i ts

more_from : (i : ℕ) (parts : Option (List Sort)) → more_parts (parts_from i parts) ≡ parts_from (i + 1) parts
more_from i None = refl
more_from i (Some ts) = left_behind i ts ∙ ap (λ n. Some (drop n ts)) (sym (add-one i))

from_first : (parts : Option (List Sort)) → parts_from zero parts ≡ parts
from_first None = refl
from_first (Some ts) = ap Some (drop_none ts)

-- ---- the targets

trees_at : (leaves : List (Bor Expr)) (i : ℕ) (e : Bor Expr) → i < length leaves → e ≡ get_or leaves i e → trees (drop i leaves) ≡ expr_tree e.now ∷ trees (drop (i + 1) leaves)
trees_at leaves i e h at =
    ap trees (drop-cons leaves i e h)
    ∙ ap (λ (x : Bor Expr). expr_tree x.now ∷ trees (drop (suc i) leaves)) (sym at)
    ∙ ap (λ k. expr_tree e.now ∷ trees (drop k leaves)) (sym (add-one i))

-- no target is looked at yet
pub aims_start : (c : Context) (k : Known) (parts : Option (List Sort)) (leaves : List (Bor Expr)) (names : List ℕ) (front : Option (List Aim)) (old : List Diag) → front ≡ Some [] → names ≡ k.names → Remains front old old (aims c k parts (trees leaves)) (aims c (with_names k names) (parts_from zero parts) (trees (drop zero leaves)))
aims_start c k parts leaves names front old empty same =
    let whole = aims c k parts (trees leaves) in
    let Front : Option (List Aim) → Type 0 = λ f. Remains f old old whole (aims c (with_names k names) (parts_from zero parts) (trees (drop zero leaves))) in
    let Names : List ℕ → Type 0 = λ l. Remains (Some []) old old whole (aims c (with_names k l) (parts_from zero parts) (trees (drop zero leaves))) in
    let Parts : Option (List Sort) → Type 0 = λ ts. Remains (Some []) old old whole (aims c k ts (trees (drop zero leaves))) in
    let Leaves : List (Bor Expr) → Type 0 = λ es. Remains (Some []) old old whole (aims c k parts (trees es)) in
    subst Front (sym empty) (subst Names (sym same) (subst Parts (sym (from_first parts)) (subst Leaves (sym (drop_none leaves)) (row_starts (Some []) old whole refl))))

module _ (c : Context) (k : Known) (parts : Option (List Sort)) (names : List ℕ) (leaves : List (Bor Expr)) (i : ℕ) (e : Bor Expr) (whole : Seen (List Aim)) (old new newer : List Diag) where
  abbrev one_at : List ℕ → Seen Aim
  one_at l = single_aim c (with_names k l) (name_in (expr_tree e.now)) (expr_tree e.now)

  abbrev known_after : List ℕ → List ℕ
  known_after l = known_behind c (name_in (expr_tree e.now)) (next_part (parts_from i parts)) l

  -- one more target is looked at, with what is known of the names before it
  pub aims_step : (front after : Option (List Aim)) (got : Option Aim) (seen seen2 names2 : List ℕ) → i < length leaves → e ≡ get_or leaves i e → Remains front old new whole (aims c (with_names k names) (parts_from i parts) (trees (drop i leaves))) → seen ≡ names → got ≡ (one_at seen).got → newer ≡ new ++ (one_at seen).said → after ≡ kept front got → seen2 ≡ names → names2 ≡ known_after seen2 → Remains after old newer whole (aims c (with_names k names2) (parts_from (i + 1) parts) (trees (drop (i + 1) leaves)))
  aims_step front after got seen seen2 names2 h at r same is said put same2 gone =
      let rest = trees (drop (i + 1) leaves) in
      let left = parts_from (i + 1) parts in
      let Row : List ExprTree → Type 0 = λ es. Remains front old new whole (aims c (with_names k names) (parts_from i parts) es) in
      let After : Option (List Aim) → Type 0 = λ a. Remains a old newer whole (aims c (with_names k names2) left rest) in
      let Names : List ℕ → Type 0 = λ l. Remains (kept front got) old newer whole (aims c (with_names k l) left rest) in
      let Parts : Option (List Sort) → Type 0 = λ ts. Remains (kept front got) old newer whole (aims c (with_names k (known_after names)) ts rest) in
      let step : Remains (kept front got) old newer whole (aims c (with_names k (known_after names)) (more_parts (parts_from i parts)) rest) = row_step front got old new newer whole (aims c (with_names k (known_after names)) (more_parts (parts_from i parts)) rest) (one_at names) (subst Row (trees_at leaves i e h at) r) (is ∙ ap (λ l. (one_at l).got) same) (said ∙ ap (λ l. new ++ (one_at l).said) same) in
      subst After (sym put) (subst Names (sym (gone ∙ ap known_after same2)) (subst Parts (more_from i parts) step))
