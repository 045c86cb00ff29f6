-- Types of the table: of what is read, of joins, of the parts of others.
use Rattle.std.proofs.Common.{◌≡◌, ℕ, zero, suc, Bool, true, false, ◌||◌, List, [], ◌∷◌, drop, slice_get, Some, refl, ap, sym, ◌∙◌, subst}
use Rattle.std.proofs.lemmas.Bool.{or_right}
use Rattle.std.proofs.lemmas.Option.{same_Some}
use Rattle.py_typed.specs.Sorts as sort
use Rattle.py_typed.specs.Sorts.{Sort, Sorts, no_sorts, sort_then, sorts_of, listed_sorts}
use Rattle.py_typed.specs.Classes.{ClassEntry}
use Rattle.py_typed.specs.Fits.{is_same_type, is_number, is_nothing, number_join, optional, fits, join}
use Rattle.py_typed.specs.WellTypedExpr.{is_value_type, are_value_types, is_result_type, reads_as}
use Rattle.py_typed.proofs.FitLemmas.{and_left, and_right, nothing_is, by_tests}

pub clash : {A : Type 0} (b : Bool) → b ≡ true → b ≡ false → A
clash true p q = absurd (cc)
clash false p q = absurd (cc)

module _ (n : ℕ) where
  pub result_of_value : (t : Sort) → is_value_type n t ≡ true → is_result_type n t ≡ true
  result_of_value t h = or_right (is_nothing t) (is_value_type n t) h

  pub value_of_result : (t : Sort) → is_result_type n t ≡ true → is_nothing t ≡ false → is_value_type n t ≡ true
  value_of_result t h q = sym (ap (λ b. b || is_value_type n t) q) ∙ h

  pub value_not_nothing : (t : Sort) → is_value_type n t ≡ true → is_nothing t ≡ false
  value_not_nothing sort.Nothing h = absurd (cc)
  value_not_nothing _ h = refl

  pub reads_value : (b : Bool) (t : Sort) → is_value_type n t ≡ true → is_value_type n (reads_as b t) ≡ true
  reads_value false t h = h
  reads_value true (sort.Optional (sort.Optional t)) h = absurd (cc)
  reads_value true (sort.Optional t) h = h
  reads_value true t h = h

  pub number_result : (s t : Sort) → is_result_type n (number_join s t) ≡ true
  number_result sort.I64 t = refl
  number_result _ sort.I64 = refl
  number_result _ _ = refl

  optional_result : (t : Sort) → is_value_type n t ≡ true → is_result_type n (optional t) ≡ true
  optional_result (sort.Optional t) h = h
  optional_result t h = h

  module _ (classes : List ClassEntry) where
    joined_result : (s t u : Sort) (one numbers none none' under over : Bool) → is_same_type s t ≡ one → is_nothing s ≡ none → is_nothing t ≡ none' → is_result_type n s ≡ true → is_result_type n t ≡ true
        → by_tests classes s t one numbers none none' under over ≡ Some u → is_result_type n u ≡ true
    joined_result s t u true numbers none none' under over a b c f g j = subst (λ x. is_result_type n x ≡ true) (same_Some s u j) f
    joined_result s t u false true none none' under over a b c f g j = subst (λ x. is_result_type n x ≡ true) (same_Some (number_join s t) u j) (number_result s t)
    joined_result s t u false false true true under over a b c f g j =
        clash (is_same_type s t) (ap (λ x. is_same_type x t) (nothing_is classes s b) ∙ ap (λ x. is_same_type sort.Nothing x) (nothing_is classes t c)) a
    joined_result s t u false false true false under over a b c f g j = subst (λ x. is_result_type n x ≡ true) (same_Some (optional t) u j) (optional_result t (value_of_result t g c))
    joined_result s t u false false false true under over a b c f g j = subst (λ x. is_result_type n x ≡ true) (same_Some (optional s) u j) (optional_result s (value_of_result s f b))
    joined_result s t u false false false false true over a b c f g j = subst (λ x. is_result_type n x ≡ true) (same_Some t u j) g
    joined_result s t u false false false false false true a b c f g j = subst (λ x. is_result_type n x ≡ true) (same_Some s u j) f
    joined_result s t u false false false false false false a b c f g j = absurd (cc)

    -- a join of types of the table is one
    pub join_result : (s t u : Sort) → is_result_type n s ≡ true → is_result_type n t ≡ true → join classes s t ≡ Some u → is_result_type n u ≡ true
    join_result s t u f g j = joined_result s t u _ _ _ _ _ _ refl refl refl f g j

  -- a part of a tuple is of a type of the table
  pub part_value : (ts : Sorts) (i : ℕ) (t : Sort) → are_value_types n ts ≡ true → slice_get (listed_sorts ts) i ≡ Some t → is_value_type n t ≡ true
  part_value no_sorts i t h g = absurd (cc)
  part_value (sort_then s ts) zero t h g = subst (λ x. is_value_type n x ≡ true) (same_Some s t g) (and_left (is_value_type n s) (are_value_types n ts) h)
  part_value (sort_then s ts) (suc i) t h g = part_value ts i t (and_right (is_value_type n s) (are_value_types n ts) h) g

-- the number that a sign gives takes it
pub signed_fits : (classes : List ClassEntry) (s : Sort) → is_number s ≡ true → fits classes s (number_join s sort.Int) ≡ true
signed_fits classes sort.Int h = refl
signed_fits classes sort.I64 h = refl
signed_fits classes sort.Bool h = refl
signed_fits classes _ h = absurd (cc)

-- what a row from a place on begins with
pub drop_get : {A : Type 0} (l : List A) (i : ℕ) (a : A) (more : List A) → drop i l ≡ a ∷ more → (slice_get l i ≡ Some a) × (drop (suc i) l ≡ more)
drop_get [] zero a more e = absurd (cc)
drop_get [] (suc i) a more e = absurd (cc)
drop_get {A = A} (x ∷ l) zero a more e = (head_of x a l more e, tail_of x a l more e)
  where
    head_of : (x a : A) (l more : List A) → x ∷ l ≡ a ∷ more → Some x ≡ Some a
    head_of x a l more e = cc

    tail_of : (x a : A) (l more : List A) → x ∷ l ≡ a ∷ more → l ≡ more
    tail_of x a l more e = cc
drop_get (x ∷ l) (suc i) a more e = drop_get l i a more e

pub listed : (l : List Sort) → listed_sorts (sorts_of l) ≡ l
listed [] = refl
listed (t ∷ l) = ap (λ m. t ∷ m) (listed l)
