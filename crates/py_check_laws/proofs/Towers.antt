-- A tuple of one part does not fit what its part fits: what fits has tuples inside one another as often.
use Rattle.std.proofs.Common.{◌≡◌, ℕ, suc, ◌+◌, true, ◌&&◌, nat_lt, List, length, refl, ap, ap₂, arith}
use Rattle.py_typed.specs.Sorts.{Sort, Nothing, TupleOf, Optional, Instance, Exc, Sorts, no_sorts, sort_then, listed_sorts}
use Rattle.py_typed.specs.Classes.{ClassEntry}
use Rattle.py_typed.specs.Fits.{same, all_same, fits}
use Rattle.py_typed.specs.WellTypedExpr.{is_value_type, are_value_types}
use Rattle.py_typed.proofs.FitLemmas.{one_type, and_left, and_right}
use Rattle.py_check_laws.proofs.Values.{third}

abbrev mutual
  height : Sort → ℕ
  height (TupleOf ts) = suc (heights ts)
  height (Optional t) = height t
  height t = 0

  heights : Sorts → ℕ
  heights no_sorts = 0
  heights (sort_then t ts) = height t + heights ts

optional_value : (n : ℕ) (t : Sort) → is_value_type n (Optional t) ≡ true → is_value_type n t ≡ true
optional_value n (Optional t) v = absurd (cc)
optional_value n _ v = v

tuple_values : (n : ℕ) (ss : Sorts) → is_value_type n (TupleOf ss) ≡ true → are_value_types n ss ≡ true
tuple_values n ss h = third (nat_lt 0 (length (listed_sorts ss))) (nat_lt (length (listed_sorts ss)) 17) (are_value_types n ss) h

module _ (classes : List ClassEntry) (n : ℕ) where
  mutual
    same_height : (s t : Sort) → is_value_type n s ≡ true → same classes s t ≡ true → height s ≡ height t
    same_height Nothing t v h = absurd (cc)
    same_height (Optional r) (Optional u) v h = same_height r u (optional_value n r v) h
    same_height (TupleOf ss) (TupleOf ts) v h = ap suc (same_heights ss ts (tuple_values n ss v) h)
    same_height (Instance c) (Instance d) v h = refl
    same_height (Exc c) (Exc d) v h = refl
    same_height s (Optional u) v h = same_height s u v h
    same_height s t v h = ap height (one_type s t h)

    same_heights : (ss ts : Sorts) → are_value_types n ss ≡ true → all_same classes ss ts ≡ true → heights ss ≡ heights ts
    same_heights no_sorts no_sorts v h = refl
    same_heights (sort_then s ss) (sort_then t ts) v h =
        ap₂ (λ a b. a + b) (same_height s t (and_left (is_value_type n s) (are_value_types n ss) v) (and_left (same classes s t) (all_same classes ss ts) h))
        (same_heights ss ts (and_right (is_value_type n s) (are_value_types n ss) v) (and_right (same classes s t) (all_same classes ss ts) h))
    same_heights no_sorts (sort_then t ts) v h = absurd (cc)
    same_heights (sort_then s ss) no_sorts v h = absurd (cc)

  too_high : (a b : ℕ) → a ≡ b → suc (a + 0) ≡ b → ⊥
  too_high a b h g = omega arith

  optional_height : (s : Sort) (us : Sorts) → is_value_type n s ≡ true → fits classes s (Optional (TupleOf us)) ≡ true → height s ≡ height (TupleOf us)
  optional_height Nothing us v h = absurd (cc)
  optional_height (Optional r) us v h = same_height r (TupleOf us) (optional_value n r v) h
  optional_height s us v h = same_height s (TupleOf us) v h

  one_value : (s : Sort) → is_value_type n s ≡ true → is_value_type n (TupleOf (sort_then s no_sorts)) ≡ true
  one_value s v = ap (λ b. b && true) v

  pub no_tower : (s t : Sort) → is_value_type n s ≡ true → is_value_type n t ≡ true → fits classes s t ≡ true → fits classes (TupleOf (sort_then s no_sorts)) t ≡ true → ⊥
  no_tower s (TupleOf ts) v w h g = too_high (height s) (height (TupleOf ts)) (same_height s (TupleOf ts) v h) (same_height (TupleOf (sort_then s no_sorts)) (TupleOf ts) (one_value s v) g)
  no_tower s (Optional (TupleOf us)) v w h g = too_high (height s) (height (TupleOf us)) (optional_height s us v h) (same_height (TupleOf (sort_then s no_sorts)) (TupleOf us) (one_value s v) g)
  no_tower s _ v w h g = absurd (cc)
