-- What is looked up among parameters and among first bindings.
use Rattle.std.proofs.Common.{◌≡◌, ◌∙◌, ℕ, zero, suc, ◌+◌, ◌<◌, Bool, true, false, cond, List, [], ◌∷◌, ◌++◌, length, map, drop, get_or, add-one, Option, Some, None, refl, ap, sym, Bor}
use Rattle.std.specs.Prelude.{slice_get}
use Rattle.std.specs.Option.{option_map}
use Rattle.std.specs.List.{zip}
use Rattle.std.specs.Map.{lookup}
use Rattle.std.specs.Str.{bytes_eq}
use Rattle.py_syntax.specs.declared.expression.Expr.{Expr}
use Rattle.py_typed.specs.Sorts.{Sort}
use Rattle.py_check_flow.specs.declared.bindings.Binding.{Binding}
use Rattle.py_check_flow.specs.Bindings.{bindings_of}
use Rattle.py_check_names.proofs.TableLemmas.{said_step}
use Rattle.py_binder.proofs.TableLemmas.{or_else}
use Rattle.py_check_signatures.proofs.DefinitionLemmas.{names, names_at}
use Rattle.py_check_definitions.specs.Starts.{param_sort, first_mark}
use Rattle.py_check_definitions.specs.Views.{mark_tree}

-- ---- parameters

abbrev none_of : (A : Type 0) → Option A
none_of A = None

none_either : {A : Type 0} (b : Bool) → none_of A ≡ cond b None None
none_either true = refl
none_either false = refl

nothing_beside : {A : Type 0} (test : List ℕ → Bool) (xs : List (List ℕ)) → none_of A ≡ lookup test (zip xs [])
nothing_beside test [] = refl
nothing_beside test (x ∷ xs) = refl

-- the first of the names, with what stands at its place
beside : {A : Type 0} (test : List ℕ → Bool) (x : List ℕ) (xs : List (List ℕ)) (sorts : List A) (i : ℕ) → lookup test (zip (x ∷ xs) (drop i sorts)) ≡ cond (test x) (slice_get sorts i) (lookup test (zip xs (drop (suc i) sorts)))
beside test x xs [] zero = none_either (test x) ∙ ap (cond (test x) None) (nothing_beside test xs)
beside test x xs [] (suc i) = none_either (test x) ∙ ap (cond (test x) None) (nothing_beside test xs)
beside test x xs (t ∷ ts) zero = refl
beside test x xs (t ∷ ts) (suc i) = beside test x xs ts i

pub param_at : (params : List (List ℕ × Option Expr)) (i : ℕ) (p : List ℕ × Option Expr) → i < length params → p ≡ get_or params i p → (sorts : List (Option Sort)) (x : List ℕ) → param_sort (names (drop i params)) (drop i sorts) x ≡ cond (bytes_eq x p.0) (slice_get sorts i) (param_sort (names (drop (i + 1) params)) (drop (i + 1) sorts) x)
param_at params i p h at sorts x =
    ap (λ l. param_sort l (drop i sorts) x) (names_at params i p h at)
    ∙ beside (bytes_eq x) p.0 (names (drop (i + 1) params)) sorts i
    ∙ ap (λ n. cond (bytes_eq x p.0) (slice_get sorts i) (param_sort (names (drop (i + 1) params)) (drop n sorts) x)) (sym (add-one i))

pub param_on : (params : List (List ℕ × Option Expr)) (i : ℕ) (p : List ℕ × Option Expr) → i < length params → p ≡ get_or params i p → (sorts : List (Option Sort)) (x : List ℕ) (whole : Option (Option Sort)) → bytes_eq x p.0 ≡ false → param_sort (names (drop i params)) (drop i sorts) x ≡ whole → param_sort (names (drop (i + 1) params)) (drop (i + 1) sorts) x ≡ whole
param_on params i p h at sorts x whole other before =
    sym (ap (λ b. cond b (slice_get sorts i) (param_sort (names (drop (i + 1) params)) (drop (i + 1) sorts) x)) other)
    ∙ sym (param_at params i p h at sorts x)
    ∙ before

pub param_found : (params : List (List ℕ × Option Expr)) (i : ℕ) (p : List ℕ × Option Expr) → i < length params → p ≡ get_or params i p → (sorts : List (Option Sort)) (x : List ℕ) (whole : Option (Option Sort)) → bytes_eq x p.0 ≡ true → param_sort (names (drop i params)) (drop i sorts) x ≡ whole → slice_get sorts i ≡ whole
param_found params i p h at sorts x whole found before =
    sym (ap (λ b. cond b (slice_get sorts i) (param_sort (names (drop (i + 1) params)) (drop (i + 1) sorts) x)) found)
    ∙ sym (param_at params i p h at sorts x)
    ∙ before

-- ---- first bindings

-- a binding as a pair
abbrev pub with_name : Binding → List ℕ × Option (Bor Expr)
with_name b = (b.name.now, b.mark)

map_two : (a b : List Binding) → map with_name (a ++ b) ≡ map with_name a ++ map with_name b
map_two [] b = refl
map_two (x ∷ a) b = ap (λ l. with_name x ∷ l) (map_two a b)

pub mark_step : (all rest : List Binding) (x : Binding) (key : List ℕ) (old new whole : List ℕ → Option (Option (Bor Expr))) → all ≡ rest ++ x ∷ [] → key ≡ x.name.now → ((k : List ℕ) → new k ≡ cond (bytes_eq key k) (Some x.mark) (old k)) → ((k : List ℕ) → or_else (lookup (bytes_eq k) (map with_name all)) (old k) ≡ whole k) → (k : List ℕ) → or_else (lookup (bytes_eq k) (map with_name rest)) (new k) ≡ whole k
mark_step all rest x key old new whole is same put before =
    said_step (map with_name all) (map with_name rest) (with_name x) old new whole (ap (map with_name) is ∙ map_two rest (x ∷ []))
    (λ k. put k ∙ ap (λ n. cond (bytes_eq n k) (Some x.mark) (old k)) same) before

seen_if : (b : Bool) (m : Option (Bor Expr)) (o : Option (Option (Bor Expr))) → option_map mark_tree (cond b (Some m) o) ≡ cond b (Some (mark_tree m)) (option_map mark_tree o)
seen_if true m o = refl
seen_if false m o = refl

pub marks_seen : (name : List ℕ) (bs : List Binding) → option_map mark_tree (lookup (bytes_eq name) (map with_name bs)) ≡ first_mark (bindings_of bs) name
marks_seen name [] = refl
marks_seen name (b ∷ bs) =
    seen_if (bytes_eq name b.name.now) b.mark (lookup (bytes_eq name) (map with_name bs))
    ∙ ap (λ o. cond (bytes_eq name b.name.now) (Some (mark_tree b.mark)) o) (marks_seen name bs)
