-- What a value is that has a type's shape, and what it is that a watched value stops at: for those that go on from a watcher.
use Rattle.std.proofs.Common.{◌≡◌, ℕ, ℤ, Bool, true, false, List, Option, Some, refl, ◌⊎◌, inl, inr, slice_get}
use Rattle.value_core.specs.Arithmetic.{lies_within}
use Rattle.value_core.specs.Exceptions.{Thrown, is_under}
use Rattle.value_core.specs.Value.{Value, IntVal, BoolVal, NoneVal, StrVal, TupleVal, ExcVal, ObjVal, Values, Object, ListObj, DictObj, InstObj, Store}
use Rattle.py_typed.specs.Sorts.{Sort, Int, I64, Bool as BoolSort, Str, Nothing, ListOf, DictOf, TupleOf, Optional, Instance, Exc, Sorts}
use Rattle.py_typed.specs.Classes.{ClassEntry, is_class_under}
use Rattle.source_meaning.specs.State.{State, Stuck, Outcome, Gives, Stops, give, needs}
use Rattle.source_soundness.specs.Shapes.{is_list, is_dict, is_instance, has_shape, have_shapes, shapes}

module _ (classes : List ClassEntry) (store : Store) where
  -- an int, a native integer, a bool, a text, None
  pub int_shape : (v : Value) → has_shape classes store Int v ≡ true → (n : ℤ) × (v ≡ IntVal n) × (lies_within 127 n ≡ true)
  int_shape (IntVal n) h = (n, refl, h)
  int_shape _ h = absurd (cc)

  pub native_shape : (v : Value) → has_shape classes store I64 v ≡ true → (n : ℤ) × (v ≡ IntVal n) × (lies_within 63 n ≡ true)
  native_shape (IntVal n) h = (n, refl, h)
  native_shape _ h = absurd (cc)

  pub bool_shape : (v : Value) → has_shape classes store BoolSort v ≡ true → (b : Bool) × (v ≡ BoolVal b)
  bool_shape (BoolVal b) h = (b, refl)
  bool_shape _ h = absurd (cc)

  pub text_shape : (v : Value) → has_shape classes store Str v ≡ true → (text : List ℕ) × (v ≡ StrVal text)
  text_shape (StrVal text) h = (text, refl)
  text_shape _ h = absurd (cc)

  pub none_shape : (v : Value) → has_shape classes store Nothing v ≡ true → v ≡ NoneVal
  none_shape NoneVal h = refl
  none_shape _ h = absurd (cc)

  -- None, or of the type's shape
  pub optional_shape : (t : Sort) (v : Value) → has_shape classes store (Optional t) v ≡ true → (v ≡ NoneVal) ⊎ (has_shape classes store t v ≡ true)
  optional_shape t NoneVal h = inl refl
  optional_shape t (IntVal n) h = inr h
  optional_shape t (BoolVal b) h = inr h
  optional_shape t (StrVal x) h = inr h
  optional_shape t (TupleVal vs) h = inr h
  optional_shape t (ExcVal e) h = inr h
  optional_shape t (ObjVal k) h = inr h

  pub tuple_shape : (ts : Sorts) (v : Value) → has_shape classes store (TupleOf ts) v ≡ true → (vs : Values) × (v ≡ TupleVal vs) × (have_shapes classes store ts vs ≡ true)
  tuple_shape ts (TupleVal vs) h = (vs, refl, h)
  tuple_shape ts _ h = absurd (cc)

  pub exception_shape : (c : _) (v : Value) → has_shape classes store (Exc c) v ≡ true → (e : Thrown) × (v ≡ ExcVal e) × (is_under e.class c ≡ true)
  exception_shape c (ExcVal e) h = (e, refl, h)
  exception_shape c _ h = absurd (cc)

  -- a list, a dict, an instance of the class or of one under it, at a place of the store
  list_at : (k : ℕ) (o : Option Object) → slice_get store k ≡ o → is_list o ≡ true → (vs : List Value) × (slice_get store k ≡ Some (ListObj vs))
  list_at k (Some (ListObj vs)) q h = (vs, q)
  list_at k _ q h = absurd (cc)

  pub list_shape : (t : Sort) (v : Value) → has_shape classes store (ListOf t) v ≡ true → (k : ℕ) × (vs : List Value) × (v ≡ ObjVal k) × (slice_get store k ≡ Some (ListObj vs))
  list_shape t (ObjVal k) h = let r : _ = list_at k (slice_get store k) refl h in (k, r.0, refl, r.1)
  list_shape t _ h = absurd (cc)

  dict_at : (k : ℕ) (o : Option Object) → slice_get store k ≡ o → is_dict o ≡ true → (ps : List (Value × Value)) × (slice_get store k ≡ Some (DictObj ps))
  dict_at k (Some (DictObj ps)) q h = (ps, q)
  dict_at k _ q h = absurd (cc)

  pub dict_shape : (j t : Sort) (v : Value) → has_shape classes store (DictOf j t) v ≡ true → (k : ℕ) × (ps : List (Value × Value)) × (v ≡ ObjVal k) × (slice_get store k ≡ Some (DictObj ps))
  dict_shape j t (ObjVal k) h = let r : _ = dict_at k (slice_get store k) refl h in (k, r.0, refl, r.1)
  dict_shape j t _ h = absurd (cc)

  instance_at : (c k : ℕ) (o : Option Object) → slice_get store k ≡ o → is_instance classes c o ≡ true → (d : ℕ) × (vs : List (Option Value)) × (slice_get store k ≡ Some (InstObj d vs)) × (is_class_under classes d c ≡ true)
  instance_at c k (Some (InstObj d vs)) q h = (d, vs, q, h)
  instance_at c k _ q h = absurd (cc)

  pub instance_shape : (c : ℕ) (v : Value) → has_shape classes store (Instance c) v ≡ true → (k : ℕ) × (d : ℕ) × (vs : List (Option Value)) × (v ≡ ObjVal k) × (slice_get store k ≡ Some (InstObj d vs)) × (is_class_under classes d c ≡ true)
  instance_shape c (ObjVal k) h = let r : _ = instance_at c k (slice_get store k) refl h in (k, r.0, r.1, refl, r.2, r.3)
  instance_shape c _ h = absurd (cc)

-- behind a watcher a value has its type's shape and the state is the same, or the run is stuck, where nothing is asked
pub watched_is : (classes : List ClassEntry) (t : Sort) (v : Value) (s : State) (P : Outcome Value → Type 0) → (has_shape classes s.store t v ≡ true → P (Gives v s)) → P (Stops Stuck s) → P (shapes classes t v s)
watched_is classes t v s P p q = by (has_shape classes s.store t v) refl
  where
    by : (b : Bool) → has_shape classes s.store t v ≡ b → P (needs b (give v) s)
    by true e = p e
    by false e = q
