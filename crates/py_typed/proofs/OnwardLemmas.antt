-- What is of a type as it stands is of all that this one is of, and what fits a type fits all that this one fits, where the classes
-- are a tree.
use Rattle.std.proofs.Common.{◌≡◌, ℕ, Bool, true, false, ◌&&◌, List, refl, sym, subst}
use Rattle.value_core.specs.declared.exception.ExcClass.{ExcClass}
use Rattle.value_core.specs.Exceptions.{is_under}
use Rattle.py_typed.specs.Sorts.{Sort, Int, I64, Bool as BoolSort, Str, Nothing, ListOf, DictOf, TupleOf, Optional, Instance, Exc, Sorts, no_sorts, sort_then}
use Rattle.py_typed.specs.Classes.{ClassEntry, is_class_under}
use Rattle.py_typed.specs.Fits.{is_number, same, all_same, fits}
use Rattle.py_typed.specs.Laws.{IsClassTree}
use Rattle.py_typed.proofs.FitLemmas.{and_left, and_right, one_type, same_fits}
use Rattle.py_typed.proofs.ClassLemmas.{under_on}
use Rattle.py_typed.proofs.ExceptionLemmas.{exception_on}

both : (a b : Bool) → a ≡ true → b ≡ true → (a && b) ≡ true
both true b p q = q
both false b p q = absurd (cc)

module _ (classes : List ClassEntry) (tree : IsClassTree classes) where
  only_nothing : (s : Sort) → same classes s Nothing ≡ true → s ≡ Nothing
  only_nothing Nothing e = refl
  only_nothing _ e = absurd (cc)

  same_up : (s u : Sort) → same classes s u ≡ true → same classes s (Optional u) ≡ true
  same_up Nothing u e = refl
  same_up (Optional r) (Optional u) e = same_up r u e
  same_up (Optional r) _ e = absurd (cc)
  same_up s u e = e

  -- what holds of all that is of the one type holds of all that is of its Optional
  optional_on : (s t u : Sort) → ((r : Sort) → same classes r t ≡ true → same classes r u ≡ true) → same classes s (Optional t) ≡ true → same classes s (Optional u) ≡ true
  optional_on Nothing t u on e = refl
  optional_on (Optional r) t u on e = on r e
  optional_on Int t u on e = on Int e
  optional_on I64 t u on e = on I64 e
  optional_on BoolSort t u on e = on BoolSort e
  optional_on Str t u on e = on Str e
  optional_on (ListOf s) t u on e = on (ListOf s) e
  optional_on (DictOf k s) t u on e = on (DictOf k s) e
  optional_on (TupleOf ss) t u on e = on (TupleOf ss) e
  optional_on (Instance c) t u on e = on (Instance c) e
  optional_on (Exc c) t u on e = on (Exc c) e

  tuple_on : (s : Sort) (ts us : Sorts) → ((ss : Sorts) → all_same classes ss ts ≡ true → all_same classes ss us ≡ true) → same classes s (TupleOf ts) ≡ true → same classes s (TupleOf us) ≡ true
  tuple_on (TupleOf ss) ts us on e = on ss e
  tuple_on _ ts us on e = absurd (cc)

  instance_on : (s : Sort) (c d : ℕ) → is_class_under classes c d ≡ true → same classes s (Instance c) ≡ true → same classes s (Instance d) ≡ true
  instance_on (Instance b) c d f e = under_on classes tree b c d e f
  instance_on _ c d f e = absurd (cc)

  exc_on : (s : Sort) (c d : ExcClass) → is_under c d ≡ true → same classes s (Exc c) ≡ true → same classes s (Exc d) ≡ true
  exc_on (Exc b) c d f e = exception_on b c d e f
  exc_on _ c d f e = absurd (cc)

  mutual
    pub same_on : (s t u : Sort) → same classes s t ≡ true → same classes t u ≡ true → same classes s u ≡ true
    same_on s Nothing (Optional u) e f = subst (λ z. same classes z (Optional u) ≡ true) (sym (only_nothing s e)) refl
    same_on s (Optional t) (Optional u) e f = optional_on s t u (λ r g. same_on r t u g f) e
    same_on s t (Optional u) e f = same_up s u (same_on s t u e f)
    same_on s (TupleOf ts) (TupleOf us) e f = tuple_on s ts us (λ ss g. all_on ss ts us g f) e
    same_on s (Instance c) (Instance d) e f = instance_on s c d f e
    same_on s (Exc c) (Exc d) e f = exc_on s c d f e
    same_on s t u e f = subst (λ z. same classes s z ≡ true) (one_type t u f) e

    all_on : (ss ts us : Sorts) → all_same classes ss ts ≡ true → all_same classes ts us ≡ true → all_same classes ss us ≡ true
    all_on no_sorts no_sorts no_sorts e f = refl
    all_on (sort_then s ss) (sort_then t ts) (sort_then u us) e f =
        both (same classes s u) (all_same classes ss us)
        (same_on s t u (and_left (same classes s t) (all_same classes ss ts) e) (and_left (same classes t u) (all_same classes ts us) f))
        (all_on ss ts us (and_right (same classes s t) (all_same classes ss ts) e) (and_right (same classes t u) (all_same classes ts us) f))
    all_on _ _ _ e f = absurd (cc)

  -- ---- what fits

  only_bool : (s : Sort) → fits classes s BoolSort ≡ true → is_number s ≡ true
  only_bool BoolSort e = refl
  only_bool _ e = absurd (cc)

  number_on : (s t : Sort) → fits classes s t ≡ true → is_number t ≡ true → is_number s ≡ true
  number_on s Int e f = e
  number_on s I64 e f = e
  number_on s BoolSort e f = only_bool s e
  number_on s _ e f = absurd (cc)

  fits_nothing : (s : Sort) → fits classes s Nothing ≡ true → s ≡ Nothing
  fits_nothing Nothing e = refl
  fits_nothing _ e = absurd (cc)

  fits_up : (s u : Sort) → fits classes s u ≡ true → fits classes s (Optional u) ≡ true
  fits_up Nothing u e = refl
  fits_up (Optional r) (Optional u) e = same_up r u e
  fits_up (Optional r) _ e = absurd (cc)
  fits_up s u e = e

  fits_optional_on : (s t u : Sort) → ((r : Sort) → same classes r t ≡ true → same classes r u ≡ true) → ((r : Sort) → fits classes r t ≡ true → fits classes r u ≡ true) → fits classes s (Optional t) ≡ true → fits classes s (Optional u) ≡ true
  fits_optional_on Nothing t u on fits_on e = refl
  fits_optional_on (Optional r) t u on fits_on e = on r e
  fits_optional_on Int t u on fits_on e = fits_on Int e
  fits_optional_on I64 t u on fits_on e = fits_on I64 e
  fits_optional_on BoolSort t u on fits_on e = fits_on BoolSort e
  fits_optional_on Str t u on fits_on e = fits_on Str e
  fits_optional_on (ListOf s) t u on fits_on e = fits_on (ListOf s) e
  fits_optional_on (DictOf k s) t u on fits_on e = fits_on (DictOf k s) e
  fits_optional_on (TupleOf ss) t u on fits_on e = fits_on (TupleOf ss) e
  fits_optional_on (Instance c) t u on fits_on e = fits_on (Instance c) e
  fits_optional_on (Exc c) t u on fits_on e = fits_on (Exc c) e

  -- types that are neither numbers to which others are changed, nor Optionals
  abbrev is_plain : Sort → Bool
  is_plain Int = false
  is_plain I64 = false
  is_plain (Optional t) = false
  is_plain t = true

  int_is_none : (u : Sort) → is_plain u ≡ true → same classes Int u ≡ true → ⊥
  int_is_none Int p f = absurd (cc)
  int_is_none (Optional u) p f = absurd (cc)
  int_is_none _ p f = absurd (cc)

  i64_is_none : (u : Sort) → is_plain u ≡ true → same classes I64 u ≡ true → ⊥
  i64_is_none I64 p f = absurd (cc)
  i64_is_none (Optional u) p f = absurd (cc)
  i64_is_none _ p f = absurd (cc)

  optional_is_none : (t u : Sort) → is_plain u ≡ true → same classes (Optional t) u ≡ true → ⊥
  optional_is_none t (Optional u) p f = absurd (cc)
  optional_is_none t _ p f = absurd (cc)

  plain_on : (s t u : Sort) → is_plain u ≡ true → fits classes s t ≡ true → same classes t u ≡ true → same classes s u ≡ true
  plain_on s Int u p e f = absurd (int_is_none u p f)
  plain_on s I64 u p e f = absurd (i64_is_none u p f)
  plain_on s (Optional t) u p e f = absurd (optional_is_none t u p f)
  plain_on s t u p e f = same_on s t u e f

  pub fits_on : (s t u : Sort) → fits classes s t ≡ true → fits classes t u ≡ true → fits classes s u ≡ true
  fits_on s t Int e f = number_on s t e f
  fits_on s t I64 e f = number_on s t e f
  fits_on s Nothing (Optional u) e f = subst (λ z. fits classes z (Optional u) ≡ true) (sym (fits_nothing s e)) refl
  fits_on s (Optional t) (Optional u) e f = fits_optional_on s t u (λ r g. same_on r t u g f) (λ r g. fits_on r t u g (same_fits classes t u f)) e
  fits_on s t (Optional u) e f = fits_up s u (fits_on s t u e f)
  fits_on s t BoolSort e f = plain_on s t BoolSort refl e f
  fits_on s t Str e f = plain_on s t Str refl e f
  fits_on s t Nothing e f = plain_on s t Nothing refl e f
  fits_on s t (ListOf u) e f = plain_on s t (ListOf u) refl e f
  fits_on s t (DictOf k u) e f = plain_on s t (DictOf k u) refl e f
  fits_on s t (TupleOf us) e f = plain_on s t (TupleOf us) refl e f
  fits_on s t (Instance c) e f = plain_on s t (Instance c) refl e f
  fits_on s t (Exc c) e f = plain_on s t (Exc c) refl e f
