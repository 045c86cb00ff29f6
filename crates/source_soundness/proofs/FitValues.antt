-- A value of a type that fits another is, coerced, one of that type, and as true as before.
-- The letters are those of `Fine`.
use Rattle.std.proofs.Common.{◌≡◌, ℕ, ℤ, pos, Bool, true, false, cond, List, [], ◌∷◌, Ok, Err, refl, sym, subst, inl, inr}
use Rattle.value_core.specs.declared.arith.Arith.TheVariants.{OutOfRange}
use Rattle.value_core.specs.Arithmetic.{lies_within}
use Rattle.value_core.specs.Value.{Value, IntVal, BoolVal, NoneVal, listed}
use Rattle.py_typed.specs.Sorts.{Sort, Int, I64, Bool as BoolSort, Str, Nothing, ListOf, DictOf, TupleOf, Optional, Instance, Exc, Sorts, no_sorts, sort_then}
use Rattle.py_typed.specs.Fits.{same, all_same, fits}
use Rattle.py_typed.specs.Laws.{IsClassTree}
use Rattle.py_typed.specs.Statements.{Variable, TypedModule}
use Rattle.source_meaning.specs.State.{State}
use Rattle.source_meaning.specs.Operations.{no_i64, coerced, fitting, truth_of}
use Rattle.py_typed.proofs.FitLemmas.{and_left, and_right, one_type, fits_itself}
use Rattle.py_typed.proofs.ClassLemmas.{under_on}
use Rattle.py_typed.proofs.ExceptionLemmas.{exception_on}
use Rattle.source_meaning.proofs.RangeLemmas.{wider}
use Rattle.source_soundness.proofs.TextLemmas.{ascii_text}
use Rattle.source_soundness.proofs.Worlds.{World, Has, HaveAll}
use Rattle.source_soundness.proofs.Fine.{Good, Fine, fine_map, fine_give, fine_new}

module _ (m : TypedModule) (tree : IsClassTree m.classes.classes) where
  module _ {utf8 : Bool} (W : World utf8) where
    mutual
      pub same_has : (s t : Sort) (v : Value) → same m.classes.classes s t ≡ true → Has m.classes.classes s W v → Has m.classes.classes t W v
      same_has Nothing (Optional u) v e h = inl h
      same_has (Optional r) (Optional u) v e (inl h) = inl h
      same_has (Optional r) (Optional u) v e (inr h) = inr (same_has r u v e h)
      same_has s (Optional u) v e h = inr (same_has s u v e h)
      same_has (TupleOf ss) (TupleOf ts) v e h = (h.0, h.1, all_have ss ts (listed h.0) e h.2)
      same_has (Instance c) (Instance d) v e h = (h.0, h.1, h.2, h.3, under_on m.classes.classes tree h.1 c d h.4 e)
      same_has (Exc c) (Exc d) v e h = (h.0, h.1, exception_on h.0.class c d h.2 e, h.3)
      same_has s t v e h = subst (λ x. Has m.classes.classes x W v) (one_type s t e) h

      all_have : (ss ts : Sorts) (vs : List Value) → all_same m.classes.classes ss ts ≡ true → HaveAll m.classes.classes ss W vs → HaveAll m.classes.classes ts W vs
      all_have no_sorts no_sorts vs e h = h
      all_have (sort_then s ss) (sort_then t ts) [] e h = absurd h
      all_have (sort_then s ss) (sort_then t ts) (v ∷ vs) e h =
          (same_has s t v (and_left (same m.classes.classes s t) (all_same m.classes.classes ss ts) e) h.0, all_have ss ts vs (and_right (same m.classes.classes s t) (all_same m.classes.classes ss ts) e) h.1)
      all_have _ _ vs e h = absurd (cc)

  module _ {utf8 : Bool} (vars : List Variable) (B : List ℕ) {W : World utf8} {s : State} (g : Good m vars W s) where
    -- what the coercion of a value gives is of the type, and as true as the value
    abbrev pub Coerces : Sort → Value → Type 0
    Coerces t v = Fine m vars Value B W s (λ V u w. Has m.classes.classes t V w × (u ≡ s) × ((x : State) → truth_of w x ≡ truth_of v x) × (w ≡ NoneVal → v ≡ NoneVal)) (coerced t v) (coerced t v)

    int_kept : (n : ℤ) → lies_within 127 n ≡ true → Coerces Int (IntVal n)
    int_kept n l = fine_give m vars g (IntVal n) ((n, refl, l), refl, (λ x. refl), λ e. e)

    bool_int : (b : Bool) → Coerces Int (BoolVal b)
    bool_int true = fine_give m vars g (IntVal (pos 1)) ((pos 1, refl, refl), refl, (λ x. refl), λ e. absurd (cc))
    bool_int false = fine_give m vars g (IntVal (pos 0)) ((pos 0, refl, refl), refl, (λ x. refl), λ e. absurd (cc))

    native_by : (n : ℤ) (b : Bool) → lies_within 63 n ≡ b → Fine m vars Value B W s (λ V u w. Has m.classes.classes I64 V w × (u ≡ s) × ((x : State) → truth_of w x ≡ truth_of (IntVal n) x) × (w ≡ NoneVal → IntVal n ≡ NoneVal)) (fitting (cond b (Ok n) (Err OutOfRange))) (fitting (cond b (Ok n) (Err OutOfRange)))
    native_by n true l = fine_give m vars g (IntVal n) ((n, refl, l), refl, (λ x. refl), λ e. e)
    native_by n false l = fine_new m vars g _ no_i64 (λ q. ascii_text no_i64 refl)

    int_native : (n : ℤ) → Coerces I64 (IntVal n)
    int_native n = native_by n (lies_within 63 n) refl

    bool_native : (b : Bool) → Coerces I64 (BoolVal b)
    bool_native true = fine_give m vars g (IntVal (pos 1)) ((pos 1, refl, refl), refl, (λ x. refl), λ e. absurd (cc))
    bool_native false = fine_give m vars g (IntVal (pos 0)) ((pos 0, refl, refl), refl, (λ x. refl), λ e. absurd (cc))

    none_kept : (t u : Sort) → Fine m vars Value B W s (λ V u w. Has m.classes.classes (Optional t) V w × (u ≡ s) × ((x : State) → truth_of w x ≡ truth_of NoneVal x) × (w ≡ NoneVal → NoneVal ≡ NoneVal)) (coerced u NoneVal) (coerced u NoneVal)
    none_kept t Int = fine_give m vars g NoneVal (inl refl, refl, (λ x. refl), λ e. refl)
    none_kept t I64 = fine_give m vars g NoneVal (inl refl, refl, (λ x. refl), λ e. refl)
    none_kept t (Optional u) = none_kept t u
    none_kept t _ = fine_give m vars g NoneVal (inl refl, refl, (λ x. refl), λ e. refl)

    pub fine_coerced : (a t : Sort) (v : Value) → fits m.classes.classes a t ≡ true → Has m.classes.classes a W v → Coerces t v
    fine_coerced Int Int v e h = subst (Coerces Int) (sym h.1) (int_kept h.0 h.2)
    fine_coerced I64 Int v e h = subst (Coerces Int) (sym h.1) (int_kept h.0 (wider h.0 h.2))
    fine_coerced BoolSort Int v e h = subst (Coerces Int) (sym h.1) (bool_int h.0)
    fine_coerced _ Int v e h = absurd (cc)
    fine_coerced Int I64 v e h = subst (Coerces I64) (sym h.1) (int_native h.0)
    fine_coerced I64 I64 v e h = subst (Coerces I64) (sym h.1) (int_native h.0)
    fine_coerced BoolSort I64 v e h = subst (Coerces I64) (sym h.1) (bool_native h.0)
    fine_coerced _ I64 v e h = absurd (cc)
    fine_coerced Nothing (Optional u) v e h = subst (Coerces (Optional u)) (sym h) (none_kept u u)
    fine_coerced (Optional r) (Optional u) v e (inl h) = subst (Coerces (Optional u)) (sym h) (none_kept u u)
    fine_coerced (Optional r) (Optional u) v e (inr h) = fine_map m vars (fine_coerced u u v (fits_itself m.classes.classes u) (same_has W r u v e h)) (λ V x st w p. (inr p.0, p.1, p.2, p.3))
    fine_coerced a (Optional u) v e h = fine_map m vars (fine_coerced a u v e h) (λ V x st w p. (inr p.0, p.1, p.2, p.3))
    fine_coerced a BoolSort v e h = fine_give m vars g v (same_has W a BoolSort v e h, refl, (λ x. refl), λ e. e)
    fine_coerced a Str v e h = fine_give m vars g v (same_has W a Str v e h, refl, (λ x. refl), λ e. e)
    fine_coerced a Nothing v e h = fine_give m vars g v (same_has W a Nothing v e h, refl, (λ x. refl), λ e. e)
    fine_coerced a (ListOf t) v e h = fine_give m vars g v (same_has W a (ListOf t) v e h, refl, (λ x. refl), λ e. e)
    fine_coerced a (DictOf j t) v e h = fine_give m vars g v (same_has W a (DictOf j t) v e h, refl, (λ x. refl), λ e. e)
    fine_coerced a (TupleOf ts) v e h = fine_give m vars g v (same_has W a (TupleOf ts) v e h, refl, (λ x. refl), λ e. e)
    fine_coerced a (Instance c) v e h = fine_give m vars g v (same_has W a (Instance c) v e h, refl, (λ x. refl), λ e. e)
    fine_coerced a (Exc c) v e h = fine_give m vars g v (same_has W a (Exc c) v e h, refl, (λ x. refl), λ e. e)
