-- A primitive whose argument is not what its row asks for is called wrongly.
use Rattle.std.proofs.Common.{◌≡◌, refl, sym, ◌∙◌, ℕ, zero, suc, replicate, true, false, ◌&&◌, List, [], ◌∷◌, Option, Some, None}
use Rattle.std.specs.Prelude.{slice_get, is_some}
use Rattle.value_core.specs.Value.{Value, IntVal, BoolVal, NoneVal, StrVal, TupleVal, ExcVal, ObjVal, Object as StoreObject, ListObj, DictObj, InstObj}
use Rattle.c_core.specs.declared.primitive.Primitive.{Primitive}
use Rattle.c_core.specs.declared.primitive.Primitive.TheVariants as prim
use Rattle.c_core.specs.declared.primitive.Int64Prim.TheVariants as int64
use Rattle.c_core.specs.declared.primitive.TaggedPrim.TheVariants as tagged
use Rattle.c_core.specs.declared.primitive.BoolPrim.TheVariants as bool
use Rattle.c_core.specs.declared.primitive.ObjectPrim.TheVariants as object
use Rattle.c_core.specs.declared.primitive.StrPrim.TheVariants as str
use Rattle.c_core.specs.declared.primitive.ListPrim.TheVariants as list
use Rattle.c_core.specs.declared.primitive.DictPrim.TheVariants as dict
use Rattle.c_core.specs.declared.primitive.TuplePrim.TheVariants as tuple
use Rattle.c_core.specs.declared.primitive.InstancePrim.TheVariants as instance
use Rattle.c_core.specs.declared.primitive.AttrPrim.TheVariants as attr
use Rattle.c_core.specs.declared.primitive.GlobalPrim.TheVariants as global
use Rattle.c_core.specs.declared.primitive.ExcPrim.TheVariants as exc
use Rattle.c_core.specs.declared.primitive.ErrPrim.TheVariants as err
use Rattle.c_core.specs.declared.primitive.IoPrim.TheVariants as io
use Rattle.c_core.specs.declared.code.Kind.TheVariants.{Object}
use Rattle.c_core.specs.Keys.{Key}
use Rattle.c_core.specs.Primitives.{Is, Anything, MaySteal, row_of}
use Rattle.ir_core.specs.declared.code.PArg.TheVariants as arg
use Rattle.ir_core.specs.declared.code.Program.{Program}
use Rattle.ir_core.specs.Effects.{World, Argument, Given, Written, Effect, Wrong, Gives, of_list, of_dict, of_instance, of_key, key_of_value, place_of_key, value_at, entry_set, entry_cut, effect}
use Rattle.refcount_insert_lines_laws.proofs.Reading.{is_list_object, is_dict_object, is_instance_object, are_suited}

module _ (p : Program) (w : World) where
  -- what is done with the items of a list is not done with another object
  no_list : (f : List Value → Effect) (o : Option StoreObject) → (is_list_object o && true) ≡ false → of_list f o ≡ Wrong
  no_list f None e = refl
  no_list f (Some (ListObj items)) e = absurd (cc)
  no_list f (Some (DictObj pairs)) e = refl
  no_list f (Some (InstObj class attributes)) e = refl

  no_dict : (f : List (Value × Value) → Effect) (o : Option StoreObject) → (is_dict_object o && true) ≡ false → of_dict f o ≡ Wrong
  no_dict f None e = refl
  no_dict f (Some (ListObj items)) e = refl
  no_dict f (Some (DictObj pairs)) e = absurd (cc)
  no_dict f (Some (InstObj class attributes)) e = refl

  no_instance : (f : ℕ → List (Option Value) → Effect) (o : Option StoreObject) → (is_instance_object o && true) ≡ false → of_instance f o ≡ Wrong
  no_instance f None e = refl
  no_instance f (Some (ListObj items)) e = refl
  no_instance f (Some (DictObj pairs)) e = refl
  no_instance f (Some (InstObj class attributes)) e = absurd (cc)

  -- nor with what is no key
  no_key : (f : List (Value × Value) → Key → Effect) (o : Option StoreObject) (k : Option Key) → (is_dict_object o && (is_some k && true)) ≡ false → of_dict (λ pairs. of_key (f pairs) k) o ≡ Wrong
  no_key f None k e = refl
  no_key f (Some (ListObj items)) k e = refl
  no_key f (Some (DictObj pairs)) None e = refl
  no_key f (Some (DictObj pairs)) (Some k) e = absurd (cc)
  no_key f (Some (InstObj class attributes)) k e = refl

  -- of the parts of a tuple nothing is asked
  all_suit : (n : ℕ) (vs : List Argument) → are_suited w (replicate n (MaySteal (Is Object) Anything)) vs ≡ true
  all_suit zero vs = refl
  all_suit (suc n) [] = refl
  all_suit (suc n) (Given v ∷ vs) = all_suit n vs
  all_suit (suc n) (Written a ∷ vs) = all_suit n vs

  pub refused : (q : Primitive) (vs : List Argument) → are_suited w (row_of q).parameters vs ≡ false → effect p q vs w ≡ Wrong
  refused (prim.Int64 int64.Add) (Given (IntVal a) ∷ Given (IntVal b) ∷ []) e = absurd (cc)
  refused (prim.Int64 int64.Add) _ e = refl
  refused (prim.Int64 int64.Subtract) (Given (IntVal a) ∷ Given (IntVal b) ∷ []) e = absurd (cc)
  refused (prim.Int64 int64.Subtract) _ e = refl
  refused (prim.Int64 int64.Multiply) (Given (IntVal a) ∷ Given (IntVal b) ∷ []) e = absurd (cc)
  refused (prim.Int64 int64.Multiply) _ e = refl
  refused (prim.Int64 int64.Negate) (Given (IntVal a) ∷ []) e = absurd (cc)
  refused (prim.Int64 int64.Negate) _ e = refl
  refused (prim.Int64 int64.FloorDivide) (Given (IntVal a) ∷ Given (IntVal b) ∷ []) e = absurd (cc)
  refused (prim.Int64 int64.FloorDivide) _ e = refl
  refused (prim.Int64 int64.Remainder) (Given (IntVal a) ∷ Given (IntVal b) ∷ []) e = absurd (cc)
  refused (prim.Int64 int64.Remainder) _ e = refl
  refused (prim.Int64 int64.Lshift) (Given (IntVal a) ∷ Given (IntVal b) ∷ []) e = absurd (cc)
  refused (prim.Int64 int64.Lshift) _ e = refl
  refused (prim.Int64 int64.Rshift) (Given (IntVal a) ∷ Given (IntVal b) ∷ []) e = absurd (cc)
  refused (prim.Int64 int64.Rshift) _ e = refl
  refused (prim.Int64 int64.FromBool) (Given (BoolVal b) ∷ []) e = absurd (cc)
  refused (prim.Int64 int64.FromBool) _ e = refl
  refused (prim.Int64 int64.Eq) (Given (IntVal a) ∷ Given (IntVal b) ∷ []) e = absurd (cc)
  refused (prim.Int64 int64.Eq) _ e = refl
  refused (prim.Int64 int64.Lt) (Given (IntVal a) ∷ Given (IntVal b) ∷ []) e = absurd (cc)
  refused (prim.Int64 int64.Lt) _ e = refl
  refused (prim.Int64 int64.Le) (Given (IntVal a) ∷ Given (IntVal b) ∷ []) e = absurd (cc)
  refused (prim.Int64 int64.Le) _ e = refl
  refused (prim.Int64 int64.Str) (Given (IntVal a) ∷ []) e = absurd (cc)
  refused (prim.Int64 int64.Str) _ e = refl
  refused (prim.Int64 int64.Box) (Given (IntVal a) ∷ []) e = absurd (cc)
  refused (prim.Int64 int64.Box) _ e = refl
  refused (prim.Int64 int64.Unbox) (Given (IntVal a) ∷ []) e = absurd (cc)
  refused (prim.Int64 int64.Unbox) _ e = refl
  refused (prim.Tagged tagged.Add) (Given (IntVal a) ∷ Given (IntVal b) ∷ []) e = absurd (cc)
  refused (prim.Tagged tagged.Add) _ e = refl
  refused (prim.Tagged tagged.Subtract) (Given (IntVal a) ∷ Given (IntVal b) ∷ []) e = absurd (cc)
  refused (prim.Tagged tagged.Subtract) _ e = refl
  refused (prim.Tagged tagged.Multiply) (Given (IntVal a) ∷ Given (IntVal b) ∷ []) e = absurd (cc)
  refused (prim.Tagged tagged.Multiply) _ e = refl
  refused (prim.Tagged tagged.Negate) (Given (IntVal a) ∷ []) e = absurd (cc)
  refused (prim.Tagged tagged.Negate) _ e = refl
  refused (prim.Tagged tagged.FloorDivide) (Given (IntVal a) ∷ Given (IntVal b) ∷ []) e = absurd (cc)
  refused (prim.Tagged tagged.FloorDivide) _ e = refl
  refused (prim.Tagged tagged.Remainder) (Given (IntVal a) ∷ Given (IntVal b) ∷ []) e = absurd (cc)
  refused (prim.Tagged tagged.Remainder) _ e = refl
  refused (prim.Tagged tagged.Lshift) (Given (IntVal a) ∷ Given (IntVal b) ∷ []) e = absurd (cc)
  refused (prim.Tagged tagged.Lshift) _ e = refl
  refused (prim.Tagged tagged.Rshift) (Given (IntVal a) ∷ Given (IntVal b) ∷ []) e = absurd (cc)
  refused (prim.Tagged tagged.Rshift) _ e = refl
  refused (prim.Tagged tagged.FromText) (Written (arg.Text text) ∷ []) e = absurd (cc)
  refused (prim.Tagged tagged.FromText) _ e = refl
  refused (prim.Tagged tagged.FromInt64) (Given (IntVal a) ∷ []) e = absurd (cc)
  refused (prim.Tagged tagged.FromInt64) _ e = refl
  refused (prim.Tagged tagged.FromBool) (Given (BoolVal b) ∷ []) e = absurd (cc)
  refused (prim.Tagged tagged.FromBool) _ e = refl
  refused (prim.Tagged tagged.AsInt64) (Given (IntVal a) ∷ []) e = absurd (cc)
  refused (prim.Tagged tagged.AsInt64) _ e = refl
  refused (prim.Tagged tagged.Eq) (Given (IntVal a) ∷ Given (IntVal b) ∷ []) e = absurd (cc)
  refused (prim.Tagged tagged.Eq) _ e = refl
  refused (prim.Tagged tagged.Lt) (Given (IntVal a) ∷ Given (IntVal b) ∷ []) e = absurd (cc)
  refused (prim.Tagged tagged.Lt) _ e = refl
  refused (prim.Tagged tagged.Le) (Given (IntVal a) ∷ Given (IntVal b) ∷ []) e = absurd (cc)
  refused (prim.Tagged tagged.Le) _ e = refl
  refused (prim.Tagged tagged.Str) (Given (IntVal a) ∷ []) e = absurd (cc)
  refused (prim.Tagged tagged.Str) _ e = refl
  refused (prim.Tagged tagged.Box) (Given (IntVal a) ∷ []) e = absurd (cc)
  refused (prim.Tagged tagged.Box) _ e = refl
  refused (prim.Tagged tagged.Unbox) (Given (IntVal a) ∷ []) e = absurd (cc)
  refused (prim.Tagged tagged.Unbox) _ e = refl
  refused (prim.Bool bool.Not) (Given (BoolVal b) ∷ []) e = absurd (cc)
  refused (prim.Bool bool.Not) _ e = refl
  refused (prim.Bool bool.Str) (Given (BoolVal b) ∷ []) e = absurd (cc)
  refused (prim.Bool bool.Str) _ e = refl
  refused (prim.Bool bool.Box) (Given (BoolVal b) ∷ []) e = absurd (cc)
  refused (prim.Bool bool.Box) _ e = refl
  refused (prim.Bool bool.Unbox) (Given (BoolVal b) ∷ []) e = absurd (cc)
  refused (prim.Bool bool.Unbox) _ e = refl
  refused (prim.Object object.IsNone) (Given NoneVal ∷ []) e = absurd (cc)
  refused (prim.Object object.IsNone) (Given v ∷ []) e = absurd (cc)
  refused (prim.Object object.IsNone) _ e = refl
  refused (prim.Str str.Literal) (Written (arg.Text text) ∷ []) e = absurd (cc)
  refused (prim.Str str.Literal) _ e = refl
  refused (prim.Str str.Concat) (Given (StrVal a) ∷ Given (StrVal b) ∷ []) e = absurd (cc)
  refused (prim.Str str.Concat) _ e = refl
  refused (prim.Str str.Eq) (Given (StrVal a) ∷ Given (StrVal b) ∷ []) e = absurd (cc)
  refused (prim.Str str.Eq) _ e = refl
  refused (prim.Str str.Lt) (Given (StrVal a) ∷ Given (StrVal b) ∷ []) e = absurd (cc)
  refused (prim.Str str.Lt) _ e = refl
  refused (prim.Str str.Le) (Given (StrVal a) ∷ Given (StrVal b) ∷ []) e = absurd (cc)
  refused (prim.Str str.Le) _ e = refl
  refused (prim.Str str.Len) (Given (StrVal a) ∷ []) e = absurd (cc)
  refused (prim.Str str.Len) _ e = refl
  refused (prim.Str str.GetItem) (Given (StrVal a) ∷ Given (IntVal i) ∷ []) e = absurd (cc)
  refused (prim.Str str.GetItem) _ e = refl
  refused (prim.List list.New) [] e = absurd (cc)
  refused (prim.List list.New) _ e = refl
  refused (prim.List list.Append) (Given (ObjVal k) ∷ Given v ∷ []) e = no_list _ (slice_get w.store k) e
  refused (prim.List list.Append) _ e = refl
  refused (prim.List list.GetItem) (Given (ObjVal k) ∷ Given (IntVal i) ∷ []) e = no_list _ (slice_get w.store k) e
  refused (prim.List list.GetItem) _ e = refl
  refused (prim.List list.GetItemBorrow) (Given (ObjVal k) ∷ Given (IntVal i) ∷ []) e = no_list _ (slice_get w.store k) e
  refused (prim.List list.GetItemBorrow) _ e = refl
  refused (prim.List list.SetItem) (Given (ObjVal k) ∷ Given (IntVal i) ∷ Given v ∷ []) e = no_list _ (slice_get w.store k) e
  refused (prim.List list.SetItem) _ e = refl
  refused (prim.List list.Pop) (Given (ObjVal k) ∷ []) e = no_list _ (slice_get w.store k) e
  refused (prim.List list.Pop) _ e = refl
  refused (prim.List list.Len) (Given (ObjVal k) ∷ []) e = no_list _ (slice_get w.store k) e
  refused (prim.List list.Len) _ e = refl
  refused (prim.Dict dict.New) [] e = absurd (cc)
  refused (prim.Dict dict.New) _ e = refl
  refused (prim.Dict dict.GetItem) (Given (ObjVal d) ∷ Given a ∷ []) e =
      no_key (λ pairs k. value_at k (place_of_key k pairs) pairs w) (slice_get w.store d) (key_of_value a) e
  refused (prim.Dict dict.GetItem) _ e = refl
  refused (prim.Dict dict.SetItem) (Given (ObjVal d) ∷ Given a ∷ Given v ∷ []) e =
      no_key (λ pairs k. entry_set d (place_of_key k pairs) pairs a v w) (slice_get w.store d) (key_of_value a) e
  refused (prim.Dict dict.SetItem) _ e = refl
  refused (prim.Dict dict.DelItem) (Given (ObjVal d) ∷ Given a ∷ []) e =
      no_key (λ pairs k. entry_cut d k (place_of_key k pairs) pairs w) (slice_get w.store d) (key_of_value a) e
  refused (prim.Dict dict.DelItem) _ e = refl
  refused (prim.Dict dict.Contains) (Given (ObjVal d) ∷ Given a ∷ []) e =
      no_key (λ pairs k. Gives (BoolVal (is_some (place_of_key k pairs))) w) (slice_get w.store d) (key_of_value a) e
  refused (prim.Dict dict.Contains) _ e = refl
  refused (prim.Dict dict.CheckSize) (Given (ObjVal d) ∷ Given (IntVal n) ∷ []) e = no_dict _ (slice_get w.store d) e
  refused (prim.Dict dict.CheckSize) _ e = refl
  refused (prim.Dict dict.KeyAt) (Given (ObjVal d) ∷ Given (IntVal i) ∷ []) e = no_dict _ (slice_get w.store d) e
  refused (prim.Dict dict.KeyAt) _ e = refl
  refused (prim.Dict dict.Len) (Given (ObjVal d) ∷ []) e = no_dict _ (slice_get w.store d) e
  refused (prim.Dict dict.Len) _ e = refl
  refused (prim.Tuple tuple.Pack) [] e = absurd (cc)
  refused (prim.Tuple tuple.Pack) (Given v ∷ vs) e = absurd (let f : true ≡ false = sym (all_suit 15 vs) ∙ e in cc)
  refused (prim.Tuple tuple.Pack) (Written a ∷ vs) e = refl
  refused (prim.Tuple tuple.GetItem) (Given (TupleVal parts) ∷ Written (arg.Number n) ∷ []) e = absurd (cc)
  refused (prim.Tuple tuple.GetItem) _ e = refl
  refused (prim.Tuple tuple.GetItemBorrow) (Given (TupleVal parts) ∷ Written (arg.Number n) ∷ []) e = absurd (cc)
  refused (prim.Tuple tuple.GetItemBorrow) _ e = refl
  refused (prim.Tuple tuple.Len) (Given (TupleVal parts) ∷ []) e = absurd (cc)
  refused (prim.Tuple tuple.Len) _ e = refl
  refused (prim.Instance instance.New) (Written (arg.Class name) ∷ []) e = absurd (cc)
  refused (prim.Instance instance.New) _ e = refl
  refused (prim.Attr attr.Get) (Given (ObjVal k) ∷ Written (arg.Number n) ∷ []) e = no_instance _ (slice_get w.store k) e
  refused (prim.Attr attr.Get) _ e = refl
  refused (prim.Attr attr.GetBorrow) (Given (ObjVal k) ∷ Written (arg.Number n) ∷ []) e = no_instance _ (slice_get w.store k) e
  refused (prim.Attr attr.GetBorrow) _ e = refl
  refused (prim.Attr attr.Set) (Given (ObjVal k) ∷ Written (arg.Number n) ∷ Given v ∷ []) e = no_instance _ (slice_get w.store k) e
  refused (prim.Attr attr.Set) _ e = refl
  refused (prim.Global global.Get) (Written (arg.Global name) ∷ []) e = absurd (cc)
  refused (prim.Global global.Get) _ e = refl
  refused (prim.Global global.Set) (Written (arg.Global name) ∷ Given v ∷ []) e = absurd (cc)
  refused (prim.Global global.Set) _ e = refl
  refused (prim.Global global.Clear) (Written (arg.Global name) ∷ []) e = absurd (cc)
  refused (prim.Global global.Clear) _ e = refl
  refused (prim.Exc exc.New) (Written (arg.Text name) ∷ Given (StrVal text) ∷ []) e = absurd (cc)
  refused (prim.Exc exc.New) _ e = refl
  refused (prim.Exc exc.Str) (Given (ExcVal x) ∷ []) e = absurd (cc)
  refused (prim.Exc exc.Str) _ e = refl
  refused (prim.Err err.SetObject) (Given (ExcVal x) ∷ []) e = absurd (cc)
  refused (prim.Err err.SetObject) _ e = refl
  refused (prim.Err err.Unbound) (Written (arg.Text name) ∷ []) e = absurd (cc)
  refused (prim.Err err.Unbound) _ e = refl
  refused (prim.Err err.Occurred) [] e = absurd (cc)
  refused (prim.Err err.Occurred) _ e = refl
  refused (prim.Err err.Matches) (Written (arg.Text name) ∷ []) e = absurd (cc)
  refused (prim.Err err.Matches) _ e = refl
  refused (prim.Err err.Catch) [] e = absurd (cc)
  refused (prim.Err err.Catch) _ e = refl
  refused (prim.Io io.Write) (Given (StrVal text) ∷ []) e = absurd (cc)
  refused (prim.Io io.Write) _ e = refl
  refused (prim.Io io.Input) [] e = absurd (cc)
  refused (prim.Io io.Input) _ e = refl
