-- Places in tuples.
use Rattle.std.proofs.Common.{◌≡◌, ℕ, zero, suc, false, nat_eq, List, [], ◌∷◌, length, map, refl, ap, sym, ◌∙◌, arith, eq-eqb, if◌then◌else◌}
use Rattle.std.proofs.lemmas.Grind.{common_steps}
use Rattle.std.specs.Prelude.{slice_get, Some, None}
use Rattle.std.specs.Option.{option_map}
use Rattle.py_typed.specs.declared.types.Ty.{Ty, fold-roll-Ty}
use Rattle.py_typed.specs.declared.types.Ty as kind
use Rattle.py_typed.specs.declared.types.Ty.TheVariants as variant
use Rattle.py_typed.specs.declared.types.Ty.TheOpen.{Ty-F}
use Rattle.py_typed.specs.Sorts.{Sort, TupleOf, sort, sort_step, sorts_of, listed_sorts}
use Rattle.py_check_context.specs.Context.{wants, along}
use Rattle.py_check_displays.specs.Displays.{parts_row}
use Rattle.py_check_displays.specs.Indexing.{Literal, place_in, part_at, at_place, with_place}

pub listed : (ts : List Sort) → listed_sorts (sorts_of ts) ≡ ts
listed [] = refl
listed (t ∷ ts) = ap (λ l. t ∷ l) (listed ts)

pub sort-Tuple : (ts : List Ty) → sort (kind.Tuple ts) ≡ TupleOf (sorts_of (map sort ts))
sort-Tuple ts = ap sort (sym (variant.rolls-Tuple ts)) ∙ fold-roll-Ty Sort sort_step (Ty-F.Tuple ts)

pub sort_found : (ts : List Ty) (i : ℕ) → slice_get (map sort ts) i ≡ option_map sort (slice_get ts i)
sort_found [] i = refl
sort_found (t ∷ ts) zero = refl
sort_found (t ∷ ts) (suc i) = sort_found ts i

pub sort_count : (ts : List Ty) → length (map sort ts) ≡ length ts
sort_count [] = refl
sort_count (t ∷ ts) = ap suc (sort_count ts)

-- ---- what the items of a tuple are there for

count_listed : (ts : List Ty) → length (listed_sorts (sorts_of (map sort ts))) ≡ length ts
count_listed ts = ap length (listed (map sort ts)) ∙ sort_count ts

pub parts_same : (ts : List Ty) (n : ℕ) → length ts ≡ n → parts_row (wants (TupleOf (sorts_of (map sort ts)))) n ≡ along (map sort ts)
parts_same ts n e =
    ap (λ b. if b then along (listed_sorts (sorts_of (map sort ts))) else along []) (eq-eqb (length (listed_sorts (sorts_of (map sort ts)))) n (count_listed ts ∙ e))
    ∙ ap along (listed (map sort ts))

differs : (m n : ℕ) → (m ≡ n → ⊥) → nat_eq m n ≡ false
differs m n h = grind (arith, common_steps)

pub parts_differ : (ts : List Ty) (n : ℕ) → (length ts ≡ n → ⊥) → parts_row (wants (TupleOf (sorts_of (map sort ts)))) n ≡ along []
parts_differ ts n h =
    ap (λ b. if b then along (listed_sorts (sorts_of (map sort ts))) else along []) (differs (length (listed_sorts (sorts_of (map sort ts)))) n (λ e. h (sym (count_listed ts) ∙ e)))

pub ruleset places = (listed, sort_found, sort_count)

-- ---- parts of tuples

module _ (l : Literal) (ts : List Ty) where
  found : part_at (Some l) (map sort ts) ≡ at_place (map sort ts) (place_in (length ts) l)
  found = ap (λ n. at_place (map sort ts) (place_in n l)) (sort_count ts)

  pub no_place : None ≡ place_in (length ts) l → None ≡ part_at (Some l) (map sort ts)
  no_place e = ap (at_place (map sort ts)) e ∙ sym found

  at_type : (place : ℕ) → Some place ≡ place_in (length ts) l → with_place place (option_map sort (slice_get ts place)) ≡ part_at (Some l) (map sort ts)
  at_type place e = ap (with_place place) (sym (sort_found ts place)) ∙ ap (at_place (map sort ts)) e ∙ sym found

  pub no_part : (place : ℕ) → Some place ≡ place_in (length ts) l → None ≡ slice_get ts place → None ≡ part_at (Some l) (map sort ts)
  no_part place e h = ap (λ o. with_place place (option_map sort o)) h ∙ at_type place e

  pub the_part : (place : ℕ) (t copy : Ty) → Some place ≡ place_in (length ts) l → Some t ≡ slice_get ts place → sort copy ≡ sort t → Some (place, sort copy) ≡ part_at (Some l) (map sort ts)
  the_part place t copy e h c = ap (λ s. Some (place, s)) c ∙ ap (λ o. with_place place (option_map sort o)) h ∙ at_type place e
