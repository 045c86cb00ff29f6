-- A value of a type, in a typed store, has the type's shape.
use Rattle.std.proofs.Common.{◌≡◌, ℕ, Bool, true, List, Some, refl, ap, ◌∙◌, inl, inr}
use Rattle.value_core.specs.Value.{Value, IntVal, BoolVal, NoneVal, StrVal, TupleVal, ExcVal, ObjVal, Values, no_values, value_then, listed, Object, ListObj, DictObj, InstObj, Store}
use Rattle.py_typed.specs.Sorts.{Sort, Int, I64, Bool as BoolSort, Str, Nothing, ListOf, DictOf, TupleOf, Optional, Instance, Exc, Sorts, no_sorts, sort_then}
use Rattle.py_typed.specs.Classes.{ClassEntry, is_class_under}
use Rattle.py_typed.specs.Statements.{Variable, TypedModule}
use Rattle.source_soundness.proofs.Facts.{both}
use Rattle.source_meaning.specs.State.{give, needs}
use Rattle.source_soundness.specs.Shapes.{is_list, is_dict, is_instance, has_shape, have_shapes, shapes}
use Rattle.source_soundness.proofs.Worlds.{World, Has, HaveAll, Is, Stored, stored_at}
use Rattle.source_soundness.proofs.Fine.{Passes}

module _ {utf8 : Bool} (classes : List ClassEntry) (W : World utf8) (store : Store) (stored : Stored classes W W.types store) where
  list_there : (t : Sort) (o : Object) → Is classes (ListOf t) W o → is_list (Some o) ≡ true
  list_there t (ListObj vs) h = refl
  list_there t (DictObj ps) h = absurd h
  list_there t (InstObj c vs) h = absurd h

  dict_there : (a t : Sort) (o : Object) → Is classes (DictOf a t) W o → is_dict (Some o) ≡ true
  dict_there a t (DictObj ps) h = refl
  dict_there a t (ListObj ps) h = absurd h
  dict_there a t (InstObj c vs) h = absurd h

  instance_there : (c d : ℕ) (o : Object) → is_class_under classes d c ≡ true → Is classes (Instance d) W o → is_instance classes c (Some o) ≡ true
  instance_there c d (InstObj e vs) u h = ap (λ x. is_class_under classes x c) h.0 ∙ u
  instance_there c d (ListObj ps) u h = absurd h
  instance_there c d (DictObj ps) u h = absurd h

  optional_shape : (t : Sort) (v : Value) → has_shape classes store t v ≡ true → has_shape classes store (Optional t) v ≡ true
  optional_shape t NoneVal h = refl
  optional_shape t (IntVal n) h = h
  optional_shape t (BoolVal b) h = h
  optional_shape t (StrVal x) h = h
  optional_shape t (TupleVal vs) h = h
  optional_shape t (ExcVal e) h = h
  optional_shape t (ObjVal k) h = h

  mutual
    pub shaped : (t : Sort) (v : Value) → Has classes t W v → has_shape classes store t v ≡ true
    shaped Int v h = ap (has_shape classes store Int) h.1 ∙ h.2
    shaped I64 v h = ap (has_shape classes store I64) h.1 ∙ h.2
    shaped BoolSort v h = ap (has_shape classes store BoolSort) h.1
    shaped Str v h = ap (has_shape classes store Str) h.1
    shaped Nothing v h = ap (has_shape classes store Nothing) h
    shaped (ListOf t) v h = let r = stored_at classes W W.types store h.0 (ListOf t) stored h.2 in ap (has_shape classes store (ListOf t)) h.1 ∙ ap is_list r.1 ∙ list_there t r.0 r.2
    shaped (DictOf a t) v h = let r = stored_at classes W W.types store h.0 (DictOf a t) stored h.2 in ap (has_shape classes store (DictOf a t)) h.1 ∙ ap is_dict r.1 ∙ dict_there a t r.0 r.2
    shaped (TupleOf ts) v h = ap (has_shape classes store (TupleOf ts)) h.1 ∙ all_shaped ts h.0 h.2
    shaped (Optional t) v (inl h) = ap (has_shape classes store (Optional t)) h
    shaped (Optional t) v (inr h) = optional_shape t v (shaped t v h)
    shaped (Instance c) v h = let r = stored_at classes W W.types store h.0 (Instance h.1) stored h.3 in ap (has_shape classes store (Instance c)) h.2 ∙ ap (is_instance classes c) r.1 ∙ instance_there c h.1 r.0 h.4 r.2
    shaped (Exc c) v h = ap (has_shape classes store (Exc c)) h.1 ∙ h.2

    all_shaped : (ts : Sorts) (vs : Values) → HaveAll classes ts W (listed vs) → have_shapes classes store ts vs ≡ true
    all_shaped no_sorts no_values h = refl
    all_shaped no_sorts (value_then v vs) h = absurd h
    all_shaped (sort_then t ts) no_values h = absurd h
    all_shaped (sort_then t ts) (value_then v vs) h = both (has_shape classes store t v) (have_shapes classes store ts vs) (shaped t v h.0) (all_shaped ts vs h.1)

pub shapes_pass : {utf8 : Bool} (m : TypedModule) (vars : List Variable) → Passes utf8 m vars (shapes m.classes.classes)
shapes_pass m vars W s g t v h = ap (λ b. needs b (give v) s) (shaped m.classes.classes W s.store g.store t v h)
