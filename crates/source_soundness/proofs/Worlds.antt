-- The values of a type, where the objects made so far have types; typed objects, stores and variables.
-- A world is what is known of the objects: a later one, `Grows`, has more of them, and what is of a type stays so (`has_still` and its
-- like). W is the world in which a value is looked at, V one before it, t a type, v a value, o an object or what a variable holds.
use Rattle.std.proofs.Common.{◌≡◌, ℕ, zero, suc, ℤ, Bool, true, List, [], ◌∷◌, ◌++◌, length, take, replicate, Option, Some, None, refl, sym, ap, subst, ◌⊎◌, inl, inr, slice_get, slice_set}
use Rattle.std.proofs.lemmas.Option.{same_Some}
use Rattle.std.specs.Str.{is_utf8}
use Rattle.value_core.specs.Arithmetic.{lies_within}
use Rattle.value_core.specs.Exceptions.{Thrown, is_under}
use Rattle.value_core.specs.Value.{Value, IntVal, BoolVal, NoneVal, StrVal, TupleVal, ExcVal, ObjVal, Values, listed, Object, ListObj, DictObj, InstObj, Store}
use Rattle.py_typed.specs.Sorts.{Sort, Int, I64, Bool as BoolSort, Str, Nothing, ListOf, DictOf, TupleOf, Optional, Instance, Exc, Sorts, no_sorts, sort_then, listed_sorts}
use Rattle.py_typed.specs.Classes.{ClassEntry, is_class_under}
use Rattle.py_typed.specs.Order.{attributes}
use Rattle.py_typed.specs.Statements.{Variable}

-- the types of the objects made so far; `utf8` says whether the texts that come in, those of the input and the names of the module, are in UTF-8
pub record World (utf8 : Bool) : Type 0 where
  pub types : List Sort

-- a text of a run: it is in UTF-8 where those that come in are
abbrev pub IsText : Bool → List ℕ → Type 0
IsText utf8 text = utf8 ≡ true → is_utf8 text ≡ true

got_front : {A : Type 0} (xs ys : List A) (k : ℕ) (x : A) → slice_get xs k ≡ Some x → slice_get (xs ++ ys) k ≡ Some x
got_front [] ys k x h = absurd (cc)
got_front (y ∷ xs) ys zero x h = h
got_front (y ∷ xs) ys (suc k) x h = got_front xs ys k x h

pub got_last : {A : Type 0} (xs : List A) (x : A) → slice_get (xs ++ x ∷ []) (length xs) ≡ Some x
got_last [] x = refl
got_last (y ∷ xs) x = got_last xs x

-- each object keeps its type
pub record Grows {utf8 : Bool} (V W : World utf8) : Type 0 where
  pub each : (k : ℕ) (t : Sort) → slice_get V.types k ≡ Some t → slice_get W.types k ≡ Some t

pub grows_none : {utf8 : Bool} (W : World utf8) → Grows W W
grows_none W = record { each = λ k t h. h }

pub grows_on : {utf8 : Bool} {U V W : World utf8} → Grows U V → Grows V W → Grows U W
grows_on p q = record { each = λ k t h. q.each k t (p.each k t h) }

-- one object more
abbrev pub with_type : {utf8 : Bool} → World utf8 → Sort → World utf8
with_type W t = record { types = W.types ++ t ∷ [] }

pub grows_by : {utf8 : Bool} (W : World utf8) (t : Sort) → Grows W (with_type W t)
grows_by W t = record { each = λ k u h. got_front W.types (t ∷ []) k u h }

module _ {utf8 : Bool} (classes : List ClassEntry) where
  -- a value of a type
  abbrev mutual
    pub Has : Sort → World utf8 → Value → Type 0
    Has Int W v = (n : ℤ) × (v ≡ IntVal n) × (lies_within 127 n ≡ true)
    Has I64 W v = (n : ℤ) × (v ≡ IntVal n) × (lies_within 63 n ≡ true)
    Has BoolSort W v = (b : Bool) × (v ≡ BoolVal b)
    Has Str W v = (text : List ℕ) × (v ≡ StrVal text) × IsText utf8 text
    Has Nothing W v = v ≡ NoneVal
    Has (ListOf t) W v = (k : ℕ) × (v ≡ ObjVal k) × (slice_get W.types k ≡ Some (ListOf t))
    Has (DictOf j t) W v = (k : ℕ) × (v ≡ ObjVal k) × (slice_get W.types k ≡ Some (DictOf j t))
    Has (TupleOf ts) W v = (vs : Values) × (v ≡ TupleVal vs) × HaveAll ts W (listed vs)
    Has (Optional t) W v = (v ≡ NoneVal) ⊎ Has t W v
    Has (Instance c) W v = (k : ℕ) × (d : ℕ) × (v ≡ ObjVal k) × (slice_get W.types k ≡ Some (Instance d)) × (is_class_under classes d c ≡ true)
    Has (Exc c) W v = (e : Thrown) × (v ≡ ExcVal e) × (is_under e.class c ≡ true) × IsText utf8 e.text

    -- values of types, one by one
    pub HaveAll : Sorts → World utf8 → List Value → Type 0
    HaveAll no_sorts W [] = Unit {0}
    HaveAll no_sorts W (v ∷ vs) = ⊥
    HaveAll (sort_then t ts) W [] = ⊥
    HaveAll (sort_then t ts) W (v ∷ vs) = Has t W v × HaveAll ts W vs

  -- values of one type; pairs of a key and a value
  abbrev pub Each : Sort → World utf8 → List Value → Type 0
  Each t W [] = Unit {0}
  Each t W (v ∷ vs) = Has t W v × Each t W vs

  abbrev pub EachPair : Sort → Sort → World utf8 → List (Value × Value) → Type 0
  EachPair j t W [] = Unit {0}
  EachPair j t W (p ∷ ps) = (Has j W p.0 × Has t W p.1) × EachPair j t W ps

  -- what is unset is of each type
  abbrev pub Holds : Sort → World utf8 → Option Value → Type 0
  Holds t W None = Unit {0}
  Holds t W (Some v) = Has t W v

  abbrev pub HoldAll : List Variable → World utf8 → List (Option Value) → Type 0
  HoldAll [] W [] = Unit {0}
  HoldAll [] W (o ∷ os) = ⊥
  HoldAll (x ∷ xs) W [] = ⊥
  HoldAll (x ∷ xs) W (o ∷ os) = Holds x.1 W o × HoldAll xs W os

  -- an object of a type
  abbrev pub Is : Sort → World utf8 → Object → Type 0
  Is (ListOf t) W (ListObj vs) = Each t W vs
  Is (DictOf j t) W (DictObj ps) = EachPair j t W ps
  Is (Instance c) W (InstObj d vs) = (d ≡ c) × HoldAll (attributes classes c) W vs
  Is _ W o = ⊥

  abbrev pub Stored : World utf8 → List Sort → Store → Type 0
  Stored W [] [] = Unit {0}
  Stored W [] (o ∷ os) = ⊥
  Stored W (t ∷ ts) [] = ⊥
  Stored W (t ∷ ts) (o ∷ os) = Is t W o × Stored W ts os

  -- ---- what is of a type stays so

  module _ (V W : World utf8) (grows : Grows V W) where
    mutual
      pub has_still : (t : Sort) (v : Value) → Has t V v → Has t W v
      has_still Int v h = h
      has_still I64 v h = h
      has_still BoolSort v h = h
      has_still Str v h = h
      has_still Nothing v h = h
      has_still (ListOf t) v h = (h.0, h.1, grows.each h.0 _ h.2)
      has_still (DictOf j t) v h = (h.0, h.1, grows.each h.0 _ h.2)
      has_still (TupleOf ts) v h = (h.0, h.1, have_still ts (listed h.0) h.2)
      has_still (Optional t) v (inl e) = inl e
      has_still (Optional t) v (inr h) = inr (has_still t v h)
      has_still (Instance c) v h = (h.0, h.1, h.2, grows.each h.0 _ h.3, h.4)
      has_still (Exc c) v h = h

      pub have_still : (ts : Sorts) (vs : List Value) → HaveAll ts V vs → HaveAll ts W vs
      have_still no_sorts [] h = h
      have_still no_sorts (v ∷ vs) h = h
      have_still (sort_then t ts) [] h = h
      have_still (sort_then t ts) (v ∷ vs) h = (has_still t v h.0, have_still ts vs h.1)

    pub each_still : (t : Sort) (vs : List Value) → Each t V vs → Each t W vs
    each_still t [] h = h
    each_still t (v ∷ vs) h = (has_still t v h.0, each_still t vs h.1)

    pub pairs_still : (j t : Sort) (ps : List (Value × Value)) → EachPair j t V ps → EachPair j t W ps
    pairs_still j t [] h = h
    pairs_still j t (p ∷ ps) h = ((has_still j p.0 h.0.0, has_still t p.1 h.0.1), pairs_still j t ps h.1)

    pub holds_still : (t : Sort) (o : Option Value) → Holds t V o → Holds t W o
    holds_still t None h = h
    holds_still t (Some v) h = has_still t v h

    pub hold_still : (xs : List Variable) (os : List (Option Value)) → HoldAll xs V os → HoldAll xs W os
    hold_still [] [] h = h
    hold_still [] (o ∷ os) h = h
    hold_still (x ∷ xs) [] h = h
    hold_still (x ∷ xs) (o ∷ os) h = (holds_still x.1 o h.0, hold_still xs os h.1)

    pub is_still : (t : Sort) (o : Object) → Is t V o → Is t W o
    is_still (ListOf t) (ListObj vs) h = each_still t vs h
    is_still (DictOf j t) (DictObj ps) h = pairs_still j t ps h
    is_still (Instance c) (InstObj d vs) h = (h.0, hold_still (attributes classes c) vs h.1)
    is_still _ _ h = absurd h

    pub stored_still : (ts : List Sort) (os : Store) → Stored V ts os → Stored W ts os
    stored_still [] [] h = h
    stored_still [] (o ∷ os) h = h
    stored_still (t ∷ ts) [] h = h
    stored_still (t ∷ ts) (o ∷ os) h = (is_still t o h.0, stored_still ts os h.1)

  -- ---- parts

  module _ (W : World utf8) where
    pub one_of_all : (ts : Sorts) (vs : List Value) (i : ℕ) (t : Sort) → HaveAll ts W vs → slice_get (listed_sorts ts) i ≡ Some t → (v : Value) × (slice_get vs i ≡ Some v) × Has t W v
    one_of_all no_sorts vs i t h e = absurd (cc)
    one_of_all (sort_then u ts) [] i t h e = absurd h
    one_of_all (sort_then u ts) (v ∷ vs) zero t h e = (v, refl, subst (λ x. Has x W v) (same_Some u t e) h.0)
    one_of_all (sort_then u ts) (v ∷ vs) (suc i) t h e = one_of_all ts vs i t h.1 e

    pub each_got : (t : Sort) (vs : List Value) (i : ℕ) (v : Value) → Each t W vs → slice_get vs i ≡ Some v → Has t W v
    each_got t [] i v h e = absurd (cc)
    each_got t (u ∷ vs) zero v h e = subst (λ x. Has t W x) (same_Some u v e) h.0
    each_got t (u ∷ vs) (suc i) v h e = each_got t vs i v h.1 e

    pub each_set : (t : Sort) (vs : List Value) (i : ℕ) (v : Value) → Each t W vs → Has t W v → Each t W (slice_set vs i v)
    each_set t [] i v h e = h
    each_set t (u ∷ vs) zero v h e = (e, h.1)
    each_set t (u ∷ vs) (suc i) v h e = (h.0, each_set t vs i v h.1 e)

    pub each_more : (t : Sort) (vs : List Value) (v : Value) → Each t W vs → Has t W v → Each t W (vs ++ v ∷ [])
    each_more t [] v h e = (e, tt)
    each_more t (u ∷ vs) v h e = (h.0, each_more t vs v h.1 e)

    pub each_taken : (t : Sort) (i : ℕ) (vs : List Value) → Each t W vs → Each t W (take i vs)
    each_taken t zero vs h = tt
    each_taken t (suc i) [] h = h
    each_taken t (suc i) (u ∷ vs) h = (h.0, each_taken t i vs h.1)

    pub held : (xs : List Variable) (os : List (Option Value)) (i : ℕ) (x : Variable) → HoldAll xs W os → slice_get xs i ≡ Some x → (o : Option Value) × (slice_get os i ≡ Some o) × Holds x.1 W o
    held [] os i x h e = absurd (cc)
    held (y ∷ xs) [] i x h e = absurd h
    held (y ∷ xs) (o ∷ os) zero x h e = (o, refl, subst (λ z. Holds z.1 W o) (same_Some y x e) h.0)
    held (y ∷ xs) (o ∷ os) (suc i) x h e = held xs os i x h.1 e

    pub held_set : (xs : List Variable) (os : List (Option Value)) (i : ℕ) (x : Variable) (o : Option Value) → HoldAll xs W os → slice_get xs i ≡ Some x → Holds x.1 W o → HoldAll xs W (slice_set os i o)
    held_set [] os i x o h e q = absurd (cc)
    held_set (y ∷ xs) [] i x o h e q = absurd h
    held_set (y ∷ xs) (u ∷ os) zero x o h e q = (subst (λ z. Holds z.1 W o) (sym (same_Some y x e)) q, h.1)
    held_set (y ∷ xs) (u ∷ os) (suc i) x o h e q = (h.0, held_set xs os i x o h.1 e q)

    -- an unset variable is of each type, also of a number that there is not
    pub held_unset : (xs : List Variable) (os : List (Option Value)) (i : ℕ) → HoldAll xs W os → HoldAll xs W (slice_set os i None)
    held_unset [] [] i h = h
    held_unset [] (o ∷ os) i h = absurd h
    held_unset (y ∷ xs) [] i h = absurd h
    held_unset (y ∷ xs) (u ∷ os) zero h = (tt, h.1)
    held_unset (y ∷ xs) (u ∷ os) (suc i) h = (h.0, held_unset xs os i h.1)

    pub held_count : (xs : List Variable) (os : List (Option Value)) → HoldAll xs W os → length os ≡ length xs
    held_count [] [] h = refl
    held_count [] (o ∷ os) h = absurd h
    held_count (y ∷ xs) [] h = absurd h
    held_count (y ∷ xs) (u ∷ os) h = ap suc (held_count xs os h.1)

    pub all_unset : (xs : List Variable) → HoldAll xs W (replicate (length xs) None)
    all_unset [] = tt
    all_unset (x ∷ xs) = (tt, all_unset xs)

    pub stored_at : (ts : List Sort) (os : Store) (k : ℕ) (t : Sort) → Stored W ts os → slice_get ts k ≡ Some t → (o : Object) × (slice_get os k ≡ Some o) × Is t W o
    stored_at [] os k t h e = absurd (cc)
    stored_at (u ∷ ts) [] k t h e = absurd h
    stored_at (u ∷ ts) (o ∷ os) zero t h e = (o, refl, subst (λ x. Is x W o) (same_Some u t e) h.0)
    stored_at (u ∷ ts) (o ∷ os) (suc k) t h e = stored_at ts os k t h.1 e

    pub stored_set : (ts : List Sort) (os : Store) (k : ℕ) (t : Sort) (o : Object) → Stored W ts os → slice_get ts k ≡ Some t → Is t W o → Stored W ts (slice_set os k o)
    stored_set [] os k t o h e q = absurd (cc)
    stored_set (u ∷ ts) [] k t o h e q = absurd h
    stored_set (u ∷ ts) (p ∷ os) zero t o h e q = (subst (λ x. Is x W o) (sym (same_Some u t e)) q, h.1)
    stored_set (u ∷ ts) (p ∷ os) (suc k) t o h e q = (h.0, stored_set ts os k t o h.1 e q)

    pub stored_count : (ts : List Sort) (os : Store) → Stored W ts os → length os ≡ length ts
    stored_count [] [] h = refl
    stored_count [] (o ∷ os) h = absurd h
    stored_count (t ∷ ts) [] h = absurd h
    stored_count (t ∷ ts) (o ∷ os) h = ap suc (stored_count ts os h.1)

    pub stored_more : (ts : List Sort) (os : Store) (t : Sort) (o : Object) → Stored W ts os → Is t W o → Stored W (ts ++ t ∷ []) (os ++ o ∷ [])
    stored_more [] [] t o h q = (q, tt)
    stored_more [] (p ∷ os) t o h q = absurd h
    stored_more (u ∷ ts) [] t o h q = absurd h
    stored_more (u ∷ ts) (p ∷ os) t o h q = (h.0, stored_more ts os t o h.1 q)
