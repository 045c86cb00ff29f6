-- The shape of a value of a type, as far as it shows without a look into lists, dicts and instances.
use Rattle.std.specs.Prelude.{ℕ, Bool, true, false, ◌&&◌, List, Option, Some, slice_get}
use Rattle.value_core.specs.Arithmetic.{lies_within}
use Rattle.value_core.specs.Exceptions.{is_under}
use Rattle.value_core.specs.Value.{Value, IntVal, BoolVal, NoneVal, StrVal, TupleVal, ExcVal, ObjVal, Values, no_values, value_then, Object, ListObj, DictObj, InstObj, Store}
use Rattle.py_typed.specs.Sorts.{Sort, Int, I64, Bool as BoolSort, Str, Nothing, ListOf, DictOf, TupleOf, Optional, Instance, Exc, Sorts, no_sorts, sort_then}
use Rattle.py_typed.specs.Classes.{ClassEntry, is_class_under}
use Rattle.source_meaning.specs.State.{give, look, needs}
use Rattle.source_soundness.specs.Watched.{Watch}

-- what an object is, where there is one
abbrev pub is_list : Option Object → Bool
is_list (Some (ListObj vs)) = true
is_list o = false

abbrev pub is_dict : Option Object → Bool
is_dict (Some (DictObj ps)) = true
is_dict o = false

module _ (classes : List ClassEntry) where
  -- an instance of the class or of one under it
  abbrev pub is_instance : ℕ → Option Object → Bool
  is_instance c (Some (InstObj d vs)) = is_class_under classes d c
  is_instance c o = false

  module _ (store : Store) where
    abbrev mutual
      -- a number in its type's range, a bool, a text, None where it may stand, a tuple part by part, an object of its kind, an
      -- exception of the class or of one under it
      pub has_shape : Sort → Value → Bool
      has_shape Int (IntVal n) = lies_within 127 n
      has_shape I64 (IntVal n) = lies_within 63 n
      has_shape BoolSort (BoolVal b) = true
      has_shape Str (StrVal text) = true
      has_shape Nothing NoneVal = true
      has_shape (Optional t) NoneVal = true
      has_shape (Optional t) v = has_shape t v
      has_shape (TupleOf ts) (TupleVal vs) = have_shapes ts vs
      has_shape (ListOf t) (ObjVal k) = is_list (slice_get store k)
      has_shape (DictOf j t) (ObjVal k) = is_dict (slice_get store k)
      has_shape (Instance c) (ObjVal k) = is_instance c (slice_get store k)
      has_shape (Exc c) (ExcVal e) = is_under e.class c
      has_shape t v = false

      -- as many values as types, each of its type's shape
      pub have_shapes : Sorts → Values → Bool
      have_shapes no_sorts no_values = true
      have_shapes (sort_then t ts) (value_then v vs) = has_shape t v && have_shapes ts vs
      have_shapes ts vs = false

  -- stuck at a value that has not its type's shape
  abbrev pub shapes : Watch
  shapes t v = look (λ s. has_shape s.store t v) (λ holds. needs holds (give v))
