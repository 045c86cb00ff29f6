-- What fits, and what a join is to its parts.
use Rattle.std.proofs.Common.{◌≡◌, ℕ, zero, suc, nat_lt, Bool, true, false, ◌&&◌, ◌||◌, List, Option, Some, None, refl, sym, ap, subst, ◌∙◌, ◌⊎◌, inl, inr, if◌then◌else◌}
use Rattle.std.specs.List.{list_any}
use Rattle.std.proofs.lemmas.Slice.Eq.{bytes_eq-Decides}
use Rattle.std.proofs.lemmas.Bool.{eqb-true, eq-eqb}
use Rattle.std.proofs.lemmas.Option.{same_Some}
use Rattle.value_core.specs.declared.exception.ExcClass.{ExcClass}
use Rattle.value_core.specs.declared.exception.ExcClass.TheVariants.{Exception, ArithmeticError, ZeroDivisionError, OverflowError, LookupError, IndexError, KeyError, NameError, UnboundLocalError, ValueError, TypeError, AttributeError, AssertionError, RuntimeError, EOFError}
use Rattle.value_core.specs.Exceptions.{class_name, is_under}
use Rattle.value_core.proofs.ValueLemmas.{names_differ}
use Rattle.py_typed.specs.Sorts.{Sort, Int, I64, Bool as BoolSort, Str, Nothing, ListOf, DictOf, TupleOf, Optional, Instance, Exc, Sorts, no_sorts, sort_then}
use Rattle.py_typed.specs.Classes.{ClassEntry, bases_of, reaches, is_class_under}
use Rattle.py_typed.specs.Fits.{is_same_type, are_same_types, is_number, is_nothing, number_join, optional, same, all_same, fits, join}

pub and_left : (a b : Bool) → (a && b) ≡ true → a ≡ true
and_left true b e = refl
and_left false b e = absurd (cc)

pub and_right : (a b : Bool) → (a && b) ≡ true → b ≡ true
and_right true b e = e
and_right false b e = absurd (cc)

-- ---- one type

mutual
  pub type_is_itself : (t : Sort) → is_same_type t t ≡ true
  type_is_itself Int = refl
  type_is_itself I64 = refl
  type_is_itself BoolSort = refl
  type_is_itself Str = refl
  type_is_itself Nothing = refl
  type_is_itself (ListOf t) = type_is_itself t
  type_is_itself (DictOf k t) = ap (λ b. b && is_same_type t t) (type_is_itself k) ∙ type_is_itself t
  type_is_itself (TupleOf ts) = types_are_themselves ts
  type_is_itself (Optional t) = type_is_itself t
  type_is_itself (Instance c) = eq-eqb c c refl
  type_is_itself (Exc c) = (bytes_eq-Decides (class_name c) (class_name c)).1 refl

  types_are_themselves : (ts : Sorts) → are_same_types ts ts ≡ true
  types_are_themselves no_sorts = refl
  types_are_themselves (sort_then t ts) = ap (λ b. b && are_same_types ts ts) (type_is_itself t) ∙ types_are_themselves ts

mutual
  pub one_type : (s t : Sort) → is_same_type s t ≡ true → s ≡ t
  one_type Int Int e = refl
  one_type I64 I64 e = refl
  one_type BoolSort BoolSort e = refl
  one_type Str Str e = refl
  one_type Nothing Nothing e = refl
  one_type (ListOf s) (ListOf t) e = ap ListOf (one_type s t e)
  one_type (DictOf j s) (DictOf k t) e =
      ap (λ x. DictOf x s) (one_type j k (and_left (is_same_type j k) (is_same_type s t) e)) ∙ ap (DictOf k) (one_type s t (and_right (is_same_type j k) (is_same_type s t) e))
  one_type (TupleOf ss) (TupleOf ts) e = ap TupleOf (one_row ss ts e)
  one_type (Optional s) (Optional t) e = ap Optional (one_type s t e)
  one_type (Instance c) (Instance d) e = ap Instance (eqb-true c d e)
  one_type (Exc c) (Exc d) e = ap Exc (names_differ c d ((bytes_eq-Decides (class_name c) (class_name d)).0 e))
  one_type _ _ e = absurd (cc)

  one_row : (ss ts : Sorts) → are_same_types ss ts ≡ true → ss ≡ ts
  one_row no_sorts no_sorts e = refl
  one_row (sort_then s ss) (sort_then t ts) e =
      ap (λ x. sort_then x ss) (one_type s t (and_left (is_same_type s t) (are_same_types ss ts) e)) ∙ ap (sort_then t) (one_row ss ts (and_right (is_same_type s t) (are_same_types ss ts) e))
  one_row no_sorts (sort_then t ts) e = absurd (cc)
  one_row (sort_then s ss) no_sorts e = absurd (cc)

-- ---- what fits

exception_under_itself : (c : ExcClass) → is_under c c ≡ true
exception_under_itself Exception = refl
exception_under_itself ArithmeticError = refl
exception_under_itself ZeroDivisionError = refl
exception_under_itself OverflowError = refl
exception_under_itself LookupError = refl
exception_under_itself IndexError = refl
exception_under_itself KeyError = refl
exception_under_itself NameError = refl
exception_under_itself UnboundLocalError = refl
exception_under_itself ValueError = refl
exception_under_itself TypeError = refl
exception_under_itself AttributeError = refl
exception_under_itself AssertionError = refl
exception_under_itself RuntimeError = refl
exception_under_itself EOFError = refl

module _ (classes : List ClassEntry) where
  pub class_under_itself : (c : ℕ) → is_class_under classes c c ≡ true
  class_under_itself zero = refl
  class_under_itself (suc c) = ap (λ b. b || list_any (λ x. nat_lt x (suc c) && reaches classes c x (suc c)) (bases_of classes (suc c))) (eq-eqb (suc c) (suc c) refl)

  mutual
    pub same_itself : (t : Sort) → same classes t t ≡ true
    same_itself Int = refl
    same_itself I64 = refl
    same_itself BoolSort = refl
    same_itself Str = refl
    same_itself Nothing = refl
    same_itself (ListOf t) = type_is_itself t
    same_itself (DictOf k t) = type_is_itself (DictOf k t)
    same_itself (TupleOf ts) = all_themselves ts
    same_itself (Optional t) = same_itself t
    same_itself (Instance c) = class_under_itself c
    same_itself (Exc c) = exception_under_itself c

    all_themselves : (ts : Sorts) → all_same classes ts ts ≡ true
    all_themselves no_sorts = refl
    all_themselves (sort_then t ts) = ap (λ b. b && all_same classes ts ts) (same_itself t) ∙ all_themselves ts

  -- what is of a type as it stands fits it
  pub same_fits : (s t : Sort) → same classes s t ≡ true → fits classes s t ≡ true
  same_fits s Int e = number_of_one s Int (one_type s Int (as_one_int s e)) refl
    where
      as_one_int : (s : Sort) → same classes s Int ≡ true → is_same_type s Int ≡ true
      as_one_int Int e = refl
      as_one_int _ e = absurd (cc)

      number_of_one : (s t : Sort) → s ≡ t → is_number t ≡ true → is_number s ≡ true
      number_of_one s t p q = ap is_number p ∙ q
  same_fits s I64 e = number_of_one s I64 (one_type s I64 (as_one_i64 s e)) refl
    where
      as_one_i64 : (s : Sort) → same classes s I64 ≡ true → is_same_type s I64 ≡ true
      as_one_i64 I64 e = refl
      as_one_i64 _ e = absurd (cc)

      number_of_one : (s t : Sort) → s ≡ t → is_number t ≡ true → is_number s ≡ true
      number_of_one s t p q = ap is_number p ∙ q
  same_fits Nothing (Optional u) e = refl
  same_fits (Optional r) (Optional u) e = e
  same_fits Int (Optional u) e = same_fits Int u e
  same_fits I64 (Optional u) e = same_fits I64 u e
  same_fits BoolSort (Optional u) e = same_fits BoolSort u e
  same_fits Str (Optional u) e = same_fits Str u e
  same_fits (ListOf s) (Optional u) e = same_fits (ListOf s) u e
  same_fits (DictOf k s) (Optional u) e = same_fits (DictOf k s) u e
  same_fits (TupleOf ss) (Optional u) e = same_fits (TupleOf ss) u e
  same_fits (Instance c) (Optional u) e = same_fits (Instance c) u e
  same_fits (Exc c) (Optional u) e = same_fits (Exc c) u e
  same_fits s BoolSort e = e
  same_fits s Str e = e
  same_fits s Nothing e = e
  same_fits s (ListOf t) e = e
  same_fits s (DictOf k t) e = e
  same_fits s (TupleOf ts) e = e
  same_fits s (Instance c) e = e
  same_fits s (Exc c) e = e

  pub fits_itself : (t : Sort) → fits classes t t ≡ true
  fits_itself t = same_fits t t (same_itself t)

  -- ---- joins

  number_fits : (s u : Sort) → is_number s ≡ true → (u ≡ Int) ⊎ (u ≡ I64) → fits classes s u ≡ true
  number_fits s u e (inl p) = ap (fits classes s) p ∙ e
  number_fits s u e (inr p) = ap (fits classes s) p ∙ e

  joined_number : (s t : Sort) → (number_join s t ≡ Int) ⊎ (number_join s t ≡ I64)
  joined_number I64 t = inr refl
  joined_number Int I64 = inr refl
  joined_number BoolSort I64 = inr refl
  joined_number _ I64 = inr refl
  joined_number _ _ = inl refl

  none_fits : (t : Sort) → fits classes Nothing (optional t) ≡ true
  none_fits (Optional t) = refl
  none_fits Int = refl
  none_fits _ = refl

  fits_optional : (t : Sort) → fits classes t (optional t) ≡ true
  fits_optional (Optional t) = same_itself t
  fits_optional Nothing = refl
  fits_optional Int = refl
  fits_optional I64 = refl
  fits_optional BoolSort = refl
  fits_optional Str = refl
  fits_optional (ListOf t) = fits_itself (ListOf t)
  fits_optional (DictOf k t) = fits_itself (DictOf k t)
  fits_optional (TupleOf ts) = fits_itself (TupleOf ts)
  fits_optional (Instance c) = fits_itself (Instance c)
  fits_optional (Exc c) = fits_itself (Exc c)

  pub nothing_is : (s : Sort) → is_nothing s ≡ true → s ≡ Nothing
  nothing_is Nothing e = refl
  nothing_is _ e = absurd (cc)

  -- the join by the answers of its tests
  abbrev pub by_tests : Sort → Sort → Bool → Bool → Bool → Bool → Bool → Bool → Option Sort
  by_tests s t one numbers none none' under over =
      if one then Some s else if numbers then Some (number_join s t) else if none then Some (optional t) else
      if none' then Some (optional s) else if under then Some t else if over then Some s else None

  upper : (s t u : Sort) (one numbers none none' under over : Bool) → is_same_type s t ≡ one → (is_number s && is_number t) ≡ numbers → is_nothing s ≡ none → is_nothing t ≡ none' → same classes s t ≡ under → same classes t s ≡ over
      → by_tests s t one numbers none none' under over ≡ Some u → (fits classes s u ≡ true) × (fits classes t u ≡ true)
  upper s t u true numbers none none' under over a b c d e f j =
      let p = same_Some s u j in
      (subst (λ x. fits classes s x ≡ true) p (fits_itself s), subst (λ x. fits classes t x ≡ true) (sym (one_type s t a) ∙ p) (fits_itself t))
  upper s t u false true none none' under over a b c d e f j =
      let p = same_Some (number_join s t) u j in (
        subst (λ x. fits classes s x ≡ true) p (number_fits s (number_join s t) (and_left (is_number s) (is_number t) b) (joined_number s t)),
        subst (λ x. fits classes t x ≡ true) p (number_fits t (number_join s t) (and_right (is_number s) (is_number t) b) (joined_number s t)),
      )
  upper s t u false false true none' under over a b c d e f j =
      let p = same_Some (optional t) u j in
      (subst (λ x. fits classes s x ≡ true) p (ap (λ x. fits classes x (optional t)) (nothing_is s c) ∙ none_fits t), subst (λ x. fits classes t x ≡ true) p (fits_optional t))
  upper s t u false false false true under over a b c d e f j =
      let p = same_Some (optional s) u j in
      (subst (λ x. fits classes s x ≡ true) p (fits_optional s), subst (λ x. fits classes t x ≡ true) p (ap (λ x. fits classes x (optional s)) (nothing_is t d) ∙ none_fits s))
  upper s t u false false false false true over a b c d e f j =
      let p = same_Some t u j in
      (subst (λ x. fits classes s x ≡ true) p (same_fits s t e), subst (λ x. fits classes t x ≡ true) p (fits_itself t))
  upper s t u false false false false false true a b c d e f j =
      let p = same_Some s u j in
      (subst (λ x. fits classes s x ≡ true) p (fits_itself s), subst (λ x. fits classes t x ≡ true) p (same_fits t s f))
  upper s t u false false false false false false a b c d e f j = absurd (cc)

  pub join_holds : (s t u : Sort) → join classes s t ≡ Some u → (fits classes s u ≡ true) × (fits classes t u ≡ true)
  join_holds s t u j = upper s t u _ _ _ _ _ _ refl refl refl refl refl refl j
