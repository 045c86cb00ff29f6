-- What primitives do, each in one row.
use Rattle.std.specs.Prelude.{ℕ, nat_lt, Bool, true, false, not, ◌&&◌, cond, ℤ, pos, negsuc, int_lt, List, [], ◌∷◌, ◌++◌, ◌+◌, length, map, take, drop, Option, Some, None, codes, is_some, Result, Ok, Err, slice_get, slice_set}
use Rattle.std.specs.Fmt.{signed_decimal}
use Rattle.std.specs.List.{position}
use Rattle.std.specs.Option.{option_and_then, option_map, option_map_or}
use Rattle.std.specs.Ordering.{int_eq}
use Rattle.std.specs.Str.{bytes_eq}
use Rattle.std.specs.Str.Parse.{signed_digits_value}
use Rattle.value_core.specs.declared.arith.Arith.{Arith}
use Rattle.value_core.specs.declared.arith.Arith.TheVariants.{Overflow}
use Rattle.value_core.specs.declared.exception.ExcClass.{ExcClass}
use Rattle.value_core.specs.declared.exception.ExcClass.TheVariants.{IndexError, ValueError, RuntimeError, EOFError}
use Rattle.value_core.specs.Characters.{place_of}
use Rattle.value_core.specs.Arithmetic.{int_add, int_sub, int_mul, int_neg, int_floor_div, int_modulo, int_shl, int_shr, int_to_i64, i64_add, i64_sub, i64_mul, i64_neg, i64_floor_div, i64_modulo, i64_shl, i64_shr}
use Rattle.value_core.specs.Ending.{Ending, Over, Broken}
use Rattle.value_core.specs.Exceptions.{Thrown, thrown, class_named, is_under}
use Rattle.value_core.specs.Items as item
use Rattle.value_core.specs.Items.{Items}
use Rattle.value_core.specs.Value.{Value, IntVal, BoolVal, NoneVal, StrVal, TupleVal, ExcVal, ObjVal, listed, tupled, Object, ListObj, DictObj, InstObj, Store}
use Rattle.c_core.specs.declared.code.Kind.{Kind}
use Rattle.c_core.specs.declared.code.CClass.{CClass}
use Rattle.c_core.specs.declared.primitive.Primitive.{Primitive}
use Rattle.c_core.specs.declared.primitive.Primitive.TheVariants as prim
use Rattle.c_core.specs.declared.primitive.Int64Prim.TheVariants as int64
use Rattle.c_core.specs.declared.primitive.TaggedPrim.TheVariants as tagged
use Rattle.c_core.specs.declared.primitive.BoolPrim.TheVariants as bool
use Rattle.c_core.specs.declared.primitive.ObjectPrim.TheVariants as object
use Rattle.c_core.specs.declared.primitive.StrPrim.TheVariants as str
use Rattle.c_core.specs.declared.primitive.ListPrim.TheVariants as list
use Rattle.c_core.specs.declared.primitive.DictPrim.TheVariants as dict
use Rattle.c_core.specs.declared.primitive.TuplePrim.TheVariants as tuple
use Rattle.c_core.specs.declared.primitive.InstancePrim.TheVariants as instance
use Rattle.c_core.specs.declared.primitive.AttrPrim.TheVariants as attr
use Rattle.c_core.specs.declared.primitive.GlobalPrim.TheVariants as global
use Rattle.c_core.specs.declared.primitive.ExcPrim.TheVariants as exc
use Rattle.c_core.specs.declared.primitive.ErrPrim.TheVariants as err
use Rattle.c_core.specs.declared.primitive.IoPrim.TheVariants as io
use Rattle.c_core.specs.Keys.{Key, NumberKey, TextKey, TruthKey, is_key}
use Rattle.c_core.specs.Step.{int64_exception, int_exception, missing, not_defined, slot_of, unbound, undefined}
use Rattle.c_core.specs.Strings.{counted_length, text_less, text_length, text_item, writes_long}
use Rattle.ir_core.specs.declared.code.PArg.{PArg}
use Rattle.ir_core.specs.declared.code.PArg.TheVariants as arg
use Rattle.ir_core.specs.declared.code.Program.{Program}

-- what a program has beside its registers: the objects made so far; its globals in order, None where one is unset; the
-- exception that is pending; the output so far; the lines of input that are left, and the turns
pub record World : Type 0 where
  pub store : Store
  pub globals : List (Option Value)
  pub pending : Option Thrown
  pub output : List ℕ
  pub items : Items
  pub turns : ℕ

-- an argument as a primitive meets it: the value of a register, or what is written
pub data Argument : Type 0 where
  Given : (v : Value) → Argument
  Written : (a : PArg) → Argument

-- What a primitive does: it was called wrongly, it gives a value, it acts and gives none, it fails with an exception, or the
-- run ends. What it does with an attribute it does only where a register is of the kind of the attribute's slot: the target of a read, or
-- the register that is written.
pub data Effect : Type 0 where
  Wrong : Effect
  Gives : (v : Value) (w : World) → Effect
  Acts : (w : World) → Effect
  Fails : (e : Thrown) (w : World) → Effect
  Ends : (e : Ending) (w : World) → Effect
  IfTarget : (k : Kind) (e : Effect) → Effect
  IfWritten : (k : Kind) (e : Effect) → Effect

-- a truth as a number and as a text
abbrev pub truth_number : Bool → ℤ
truth_number true = pos 1
truth_number false = pos 0

abbrev pub truth_text : Bool → List ℕ
truth_text true = codes "True"
truth_text false = codes "False"

abbrev pub native_or : Result ℤ Arith → World → Effect
native_or (Ok n) w = Gives (IntVal n) w
native_or (Err f) w = Fails (int64_exception f) w

-- an `int`, or why there is none
abbrev pub int_or : Result ℤ Arith → World → Effect
int_or (Ok n) w = Gives (IntVal n) w
int_or (Err f) w = Fails (int_exception f) w

-- an `int` as a native integer, where it fits
abbrev pub fitted : Result ℤ Arith → World → Effect
fitted (Ok n) w = Gives (IntVal n) w
fitted (Err f) w = Fails (int64_exception Overflow) w

-- a text that writes this number as it is printed, which is an `int` that is not short
abbrev pub written_int : List ℕ → ℤ → World → Effect
written_int text n w = cond (writes_long text n) (Gives (IntVal n) w) Wrong

-- an `int` as a native integer, which has to fit
abbrev pub native_in : Result ℤ Arith → World → Effect
native_in (Ok n) w = Gives (IntVal n) w
native_in (Err f) w = Wrong

-- an object is put into the store, behind the others, and in the place of one
abbrev pub with_new : Object → World → World
with_new o w = record w { store = w.store ++ o ∷ [] }

abbrev pub with_object : ℕ → Object → World → World
with_object k o w = record w { store = slice_set w.store k o }

-- what is done with the items of a list, and with a value
abbrev pub of_list : (List Value → Effect) → Option Object → Effect
of_list f (Some (ListObj items)) = f items
of_list f _ = Wrong

abbrev pub of_value : (Value → Effect) → Option Value → Effect
of_value f None = Wrong
of_value f (Some v) = f v

-- the item of a list at the place of an index; another one is put there; the last one is taken out
abbrev pub item_at : Option ℕ → List Value → World → Effect
item_at None items w = Fails (thrown IndexError (codes "list index out of range")) w
item_at (Some i) items w = of_value (λ v. Gives v w) (slice_get items i)

abbrev pub put_at : ℕ → Option ℕ → List Value → Value → World → Effect
put_at k None items v w = Fails (thrown IndexError (codes "list assignment index out of range")) w
put_at k (Some i) items v w =
    of_value (λ old. Gives (BoolVal true) (with_object k (ListObj (slice_set items i v)) w)) (slice_get items i)

abbrev pub popped : ℕ → Option ℕ → List Value → World → Effect
popped k None items w = Fails (thrown IndexError (codes "pop from empty list")) w
popped k (Some i) items w = of_value (λ v. Gives v (with_object k (ListObj (take i items)) w)) (slice_get items i)

-- what is done with the pairs of a dict, with a key, and with a pair
abbrev pub of_dict : (List (Value × Value) → Effect) → Option Object → Effect
of_dict f (Some (DictObj pairs)) = f pairs
of_dict f _ = Wrong

abbrev pub of_key : (Key → Effect) → Option Key → Effect
of_key f None = Wrong
of_key f (Some k) = f k

abbrev pub of_pair : (Value × Value → Effect) → Option (Value × Value) → Effect
of_pair f None = Wrong
of_pair f (Some p) = f p

-- the key that a value is, if it may be one
abbrev pub key_of_value : Value → Option Key
key_of_value (IntVal n) = Some (NumberKey n)
key_of_value (StrVal text) = Some (TextKey text)
key_of_value (BoolVal b) = Some (TruthKey b)
key_of_value _ = None

-- the place of the first pair of a dict whose key is this one
abbrev pub place_of_key : Key → List (Value × Value) → Option ℕ
place_of_key k pairs = position (λ p. is_key k (key_of_value p.0)) pairs

-- at the place of a key in a dict, if it has one: the value is read; another value is put there, or a new pair behind the others; the
-- pair is taken out. A key that is there stays
abbrev pub value_at : Key → Option ℕ → List (Value × Value) → World → Effect
value_at k None pairs w = Fails (missing k) w
value_at k (Some i) pairs w = of_pair (λ p. Gives p.1 w) (slice_get pairs i)

abbrev pub entry_set : ℕ → Option ℕ → List (Value × Value) → Value → Value → World → Effect
entry_set d None pairs key v w = Acts (with_object d (DictObj (pairs ++ (key, v) ∷ [])) w)
entry_set d (Some i) pairs key v w =
    of_pair (λ p. Acts (with_object d (DictObj (slice_set pairs i (p.0, v))) w)) (slice_get pairs i)

abbrev pub entry_cut : ℕ → Key → Option ℕ → List (Value × Value) → World → Effect
entry_cut d k None pairs w = Fails (missing k) w
entry_cut d k (Some i) pairs w =
    of_pair (λ p. Gives (BoolVal true) (with_object d (DictObj (take i pairs ++ drop (i + 1) pairs)) w)) (slice_get pairs i)

-- whether a dict has as many pairs as before, and the key at a place
abbrev pub sized : Bool → World → Effect
sized true w = Gives (BoolVal true) w
sized false w = Fails (thrown RuntimeError (codes "dictionary changed size during iteration")) w

abbrev pub key_at : List (Value × Value) → ℤ → World → Effect
key_at pairs (pos i) w = of_pair (λ p. Gives p.0 w) (slice_get pairs i)
key_at pairs (negsuc i) w = Wrong

-- the values of arguments, all of them registers
abbrev pub values_in : List Argument → Option (List Value)
values_in [] = Some []
values_in (Given v ∷ rest) = option_map (λ vs. v ∷ vs) (values_in rest)
values_in (Written a ∷ rest) = None

-- a tuple of 1 to 16 parts
abbrev pub packed : List Value → World → Effect
packed vs w = cond (nat_lt 0 (length vs) && nat_lt (length vs) 17) (Gives (TupleVal (tupled vs)) w) Wrong

-- what is done with values
abbrev pub of_values : (List Value → Effect) → Option (List Value) → Effect
of_values f None = Wrong
of_values f (Some vs) = f vs

-- the part of a tuple
abbrev pub part_at : List Value → ℤ → World → Effect
part_at parts (pos i) w = of_value (λ v. Gives v w) (slice_get parts i)
part_at parts (negsuc i) w = Wrong

-- the number of a class by its name
abbrev pub number_of_class : Program → List ℕ → Option ℕ
number_of_class p name = position (λ k. bytes_eq name k.name) p.classes

-- a new instance of the class of a number, with all attributes unset
abbrev pub instance_of : Option ℕ → Option CClass → World → Effect
instance_of (Some n) (Some k) w =
    Gives (ObjVal (length w.store)) (with_new (InstObj n (map (λ a. None) k.attrs)) w)
instance_of n k w = Wrong

-- what is done with the attributes of an instance of the class of a number
abbrev pub of_instance : (ℕ → List (Option Value) → Effect) → Option Object → Effect
of_instance f (Some (InstObj class attributes)) = f class attributes
of_instance f _ = Wrong

-- the slot of a number in the class of a number, with its name and its kind
abbrev pub slot_in : Program → ℕ → ℤ → Option (List ℕ × Kind)
slot_in p class n = option_and_then (λ k. slot_of k n) (slice_get p.classes class)

abbrev pub name_of_class : Program → ℕ → List ℕ
name_of_class p class = option_map_or (λ k. k.name) (slice_get p.classes class) []

-- the attribute of a number, which is unset or holds a value
abbrev pub attribute_at : List (Option Value) → ℤ → Option (Option Value)
attribute_at attributes (pos i) = slice_get attributes i
attribute_at attributes (negsuc i) = None

-- a read of a slot of the class of a name, which holds this
abbrev pub slot_got : List ℕ → Option (List ℕ × Kind) → Option (Option Value) → World → Effect
slot_got class (Some a) (Some (Some v)) w = IfTarget a.1 (Gives v w)
slot_got class (Some a) (Some None) w = IfTarget a.1 (Fails (undefined a.0 class) w)
slot_got class a o w = Wrong

-- a write of a value to a slot of the object of a number, an instance of the class of a number
abbrev pub slot_set : ℕ → ℕ → ℤ → List (Option Value) → Value → Option (List ℕ × Kind) → Option (Option Value) → World → Effect
slot_set k class (pos i) attributes v (Some a) (Some old) w =
    IfWritten a.1 (Acts (with_object k (InstObj class (slice_set attributes i (Some v))) w))
slot_set k class n attributes v a o w = Wrong

-- the item of a text
abbrev pub item_or : Option (List ℕ) → World → Effect
item_or None w = Fails (thrown IndexError (codes "string index out of range")) w
item_or (Some text) w = Gives (StrVal text) w

-- the next line of input; at its end there is none, and the end stays
abbrev pub line_read : Items → World → Effect
line_read item.Eof w = Fails (thrown EOFError (codes "EOF when reading a line")) w
line_read item.Broken w = Ends Broken w
line_read item.Over w = Ends Over w
line_read (item.Line text next) w = Gives (StrVal text) (record w { items = next })
line_read (item.Bad next) w = Fails (thrown ValueError (codes "input is not UTF-8")) (record w { items = next })

-- the number of a global by its name, and what it holds: nothing where there is none of the name, and nothing inside where it
-- is unset
abbrev pub number_of_global : Program → List ℕ → Option ℕ
number_of_global p name = position (λ g. bytes_eq name g.0) p.globals

abbrev pub global_at : Program → World → List ℕ → Option (Option Value)
global_at p w name = option_and_then (slice_get w.globals) (number_of_global p name)

abbrev pub got : List ℕ → Option (Option Value) → World → Effect
got name None w = Wrong
got name (Some None) w = Fails (not_defined name) w
got name (Some (Some v)) w = Gives v w

-- the global of a number, which holds something or is unset, holds what is new
abbrev pub stored : Option ℕ → Option (Option Value) → Option Value → World → Effect
stored (Some n) (Some old) new w = Acts (record w { globals = slice_set w.globals n new })
stored _ _ new w = Wrong

abbrev pub made_exception : Option ExcClass → List ℕ → World → Effect
made_exception None text w = Wrong
made_exception (Some class) text w = Gives (ExcVal (thrown class text)) w

abbrev pub matched : Option ExcClass → Option Thrown → World → Effect
matched (Some class) (Some e) w = Gives (BoolVal (is_under e.class class)) w
matched _ _ w = Wrong

abbrev pub caught : Option Thrown → World → Effect
caught None w = Wrong
caught (Some e) w = Gives (ExcVal e) (record w { pending = None })

abbrev pub effect : Program → Primitive → List Argument → World → Effect
effect p (prim.Int64 int64.Add) (Given (IntVal a) ∷ Given (IntVal b) ∷ []) w = Gives (IntVal (i64_add a b)) w
effect p (prim.Int64 int64.Subtract) (Given (IntVal a) ∷ Given (IntVal b) ∷ []) w = Gives (IntVal (i64_sub a b)) w
effect p (prim.Int64 int64.Multiply) (Given (IntVal a) ∷ Given (IntVal b) ∷ []) w = Gives (IntVal (i64_mul a b)) w
effect p (prim.Int64 int64.Negate) (Given (IntVal a) ∷ []) w = Gives (IntVal (i64_neg a)) w
effect p (prim.Int64 int64.FloorDivide) (Given (IntVal a) ∷ Given (IntVal b) ∷ []) w = native_or (i64_floor_div a b) w
effect p (prim.Int64 int64.Remainder) (Given (IntVal a) ∷ Given (IntVal b) ∷ []) w = native_or (i64_modulo a b) w
effect p (prim.Int64 int64.Lshift) (Given (IntVal a) ∷ Given (IntVal b) ∷ []) w = native_or (i64_shl a b) w
effect p (prim.Int64 int64.Rshift) (Given (IntVal a) ∷ Given (IntVal b) ∷ []) w = native_or (i64_shr a b) w
effect p (prim.Int64 int64.FromBool) (Given (BoolVal b) ∷ []) w = Gives (IntVal (truth_number b)) w
effect p (prim.Int64 int64.Eq) (Given (IntVal a) ∷ Given (IntVal b) ∷ []) w = Gives (BoolVal (int_eq a b)) w
effect p (prim.Int64 int64.Lt) (Given (IntVal a) ∷ Given (IntVal b) ∷ []) w = Gives (BoolVal (int_lt a b)) w
effect p (prim.Int64 int64.Le) (Given (IntVal a) ∷ Given (IntVal b) ∷ []) w = Gives (BoolVal (not (int_lt b a))) w
effect p (prim.Int64 int64.Str) (Given (IntVal a) ∷ []) w = Gives (StrVal (signed_decimal a)) w
effect p (prim.Int64 int64.Box) (Given (IntVal a) ∷ []) w = Gives (IntVal a) w
effect p (prim.Int64 int64.Unbox) (Given (IntVal a) ∷ []) w = native_in (int_to_i64 a) w
effect p (prim.Tagged tagged.Add) (Given (IntVal a) ∷ Given (IntVal b) ∷ []) w = int_or (int_add a b) w
effect p (prim.Tagged tagged.Subtract) (Given (IntVal a) ∷ Given (IntVal b) ∷ []) w = int_or (int_sub a b) w
effect p (prim.Tagged tagged.Multiply) (Given (IntVal a) ∷ Given (IntVal b) ∷ []) w = int_or (int_mul a b) w
effect p (prim.Tagged tagged.Negate) (Given (IntVal a) ∷ []) w = int_or (int_neg a) w
effect p (prim.Tagged tagged.FloorDivide) (Given (IntVal a) ∷ Given (IntVal b) ∷ []) w = int_or (int_floor_div a b) w
effect p (prim.Tagged tagged.Remainder) (Given (IntVal a) ∷ Given (IntVal b) ∷ []) w = int_or (int_modulo a b) w
effect p (prim.Tagged tagged.Lshift) (Given (IntVal a) ∷ Given (IntVal b) ∷ []) w = int_or (int_shl a b) w
effect p (prim.Tagged tagged.Rshift) (Given (IntVal a) ∷ Given (IntVal b) ∷ []) w = int_or (int_shr a b) w
effect p (prim.Tagged tagged.FromText) (Written (arg.Text text) ∷ []) w = written_int text (signed_digits_value 10 text) w
effect p (prim.Tagged tagged.FromInt64) (Given (IntVal a) ∷ []) w = Gives (IntVal a) w
effect p (prim.Tagged tagged.FromBool) (Given (BoolVal b) ∷ []) w = Gives (IntVal (truth_number b)) w
effect p (prim.Tagged tagged.AsInt64) (Given (IntVal a) ∷ []) w = fitted (int_to_i64 a) w
effect p (prim.Tagged tagged.Eq) (Given (IntVal a) ∷ Given (IntVal b) ∷ []) w = Gives (BoolVal (int_eq a b)) w
effect p (prim.Tagged tagged.Lt) (Given (IntVal a) ∷ Given (IntVal b) ∷ []) w = Gives (BoolVal (int_lt a b)) w
effect p (prim.Tagged tagged.Le) (Given (IntVal a) ∷ Given (IntVal b) ∷ []) w = Gives (BoolVal (not (int_lt b a))) w
effect p (prim.Tagged tagged.Str) (Given (IntVal a) ∷ []) w = Gives (StrVal (signed_decimal a)) w
effect p (prim.Tagged tagged.Box) (Given (IntVal a) ∷ []) w = Gives (IntVal a) w
effect p (prim.Tagged tagged.Unbox) (Given (IntVal a) ∷ []) w = Gives (IntVal a) w
effect p (prim.Bool bool.Not) (Given (BoolVal b) ∷ []) w = Gives (BoolVal (not b)) w
effect p (prim.Bool bool.Str) (Given (BoolVal b) ∷ []) w = Gives (StrVal (truth_text b)) w
effect p (prim.Bool bool.Box) (Given (BoolVal b) ∷ []) w = Gives (BoolVal b) w
effect p (prim.Bool bool.Unbox) (Given (BoolVal b) ∷ []) w = Gives (BoolVal b) w
effect p (prim.Object object.IsNone) (Given NoneVal ∷ []) w = Gives (BoolVal true) w
effect p (prim.Object object.IsNone) (Given v ∷ []) w = Gives (BoolVal false) w
effect p (prim.Str str.Literal) (Written (arg.Text text) ∷ []) w = Gives (StrVal text) w
effect p (prim.Str str.Concat) (Given (StrVal a) ∷ Given (StrVal b) ∷ []) w = Gives (StrVal (a ++ b)) w
effect p (prim.Str str.Eq) (Given (StrVal a) ∷ Given (StrVal b) ∷ []) w = Gives (BoolVal (bytes_eq a b)) w
effect p (prim.Str str.Lt) (Given (StrVal a) ∷ Given (StrVal b) ∷ []) w = Gives (BoolVal (text_less a b)) w
effect p (prim.Str str.Le) (Given (StrVal a) ∷ Given (StrVal b) ∷ []) w = Gives (BoolVal (not (text_less b a))) w
effect p (prim.Str str.Len) (Given (StrVal text) ∷ []) w = Gives (IntVal (text_length text)) w
effect p (prim.Str str.GetItem) (Given (StrVal text) ∷ Given (IntVal a) ∷ []) w = item_or (text_item text a) w
effect p (prim.List list.New) [] w = Gives (ObjVal (length w.store)) (with_new (ListObj []) w)
effect p (prim.List list.Append) (Given (ObjVal k) ∷ Given v ∷ []) w =
    of_list (λ items. Acts (with_object k (ListObj (items ++ v ∷ [])) w)) (slice_get w.store k)
effect p (prim.List list.GetItem) (Given (ObjVal k) ∷ Given (IntVal i) ∷ []) w =
    of_list (λ items. item_at (place_of (length items) i) items w) (slice_get w.store k)
effect p (prim.List list.GetItemBorrow) (Given (ObjVal k) ∷ Given (IntVal i) ∷ []) w =
    of_list (λ items. item_at (place_of (length items) i) items w) (slice_get w.store k)
effect p (prim.List list.SetItem) (Given (ObjVal k) ∷ Given (IntVal i) ∷ Given v ∷ []) w =
    of_list (λ items. put_at k (place_of (length items) i) items v w) (slice_get w.store k)
effect p (prim.List list.Pop) (Given (ObjVal k) ∷ []) w =
    of_list (λ items. popped k (place_of (length items) (negsuc 0)) items w) (slice_get w.store k)
effect p (prim.List list.Len) (Given (ObjVal k) ∷ []) w =
    of_list (λ items. Gives (IntVal (pos (counted_length (length items)))) w) (slice_get w.store k)
effect p (prim.Dict dict.New) [] w = Gives (ObjVal (length w.store)) (with_new (DictObj []) w)
effect p (prim.Dict dict.GetItem) (Given (ObjVal d) ∷ Given a ∷ []) w =
    of_dict (λ pairs. of_key (λ k. value_at k (place_of_key k pairs) pairs w) (key_of_value a)) (slice_get w.store d)
effect p (prim.Dict dict.SetItem) (Given (ObjVal d) ∷ Given a ∷ Given v ∷ []) w =
    of_dict (λ pairs. of_key (λ k. entry_set d (place_of_key k pairs) pairs a v w) (key_of_value a)) (slice_get w.store d)
effect p (prim.Dict dict.DelItem) (Given (ObjVal d) ∷ Given a ∷ []) w =
    of_dict (λ pairs. of_key (λ k. entry_cut d k (place_of_key k pairs) pairs w) (key_of_value a)) (slice_get w.store d)
effect p (prim.Dict dict.Contains) (Given (ObjVal d) ∷ Given a ∷ []) w =
    of_dict (λ pairs. of_key (λ k. Gives (BoolVal (is_some (place_of_key k pairs))) w) (key_of_value a)) (slice_get w.store d)
effect p (prim.Dict dict.CheckSize) (Given (ObjVal d) ∷ Given (IntVal n) ∷ []) w =
    of_dict (λ pairs. sized (int_eq (pos (counted_length (length pairs))) n) w) (slice_get w.store d)
effect p (prim.Dict dict.KeyAt) (Given (ObjVal d) ∷ Given (IntVal i) ∷ []) w =
    of_dict (λ pairs. key_at pairs i w) (slice_get w.store d)
effect p (prim.Dict dict.Len) (Given (ObjVal d) ∷ []) w =
    of_dict (λ pairs. Gives (IntVal (pos (counted_length (length pairs)))) w) (slice_get w.store d)
effect p (prim.Tuple tuple.Pack) all w = of_values (λ vs. packed vs w) (values_in all)
effect p (prim.Tuple tuple.GetItem) (Given (TupleVal parts) ∷ Written (arg.Number n) ∷ []) w = part_at (listed parts) n w
effect p (prim.Tuple tuple.GetItemBorrow) (Given (TupleVal parts) ∷ Written (arg.Number n) ∷ []) w = part_at (listed parts) n w
effect p (prim.Tuple tuple.Len) (Given (TupleVal parts) ∷ []) w = Gives (IntVal (pos (counted_length (length (listed parts))))) w
effect p (prim.Instance instance.New) (Written (arg.Class name) ∷ []) w =
    instance_of (number_of_class p name) (option_and_then (slice_get p.classes) (number_of_class p name)) w
effect p (prim.Attr attr.Get) (Given (ObjVal k) ∷ Written (arg.Number n) ∷ []) w =
    of_instance (λ class attributes. slot_got (name_of_class p class) (slot_in p class n) (attribute_at attributes n) w) (slice_get w.store k)
effect p (prim.Attr attr.GetBorrow) (Given (ObjVal k) ∷ Written (arg.Number n) ∷ []) w =
    of_instance (λ class attributes. slot_got (name_of_class p class) (slot_in p class n) (attribute_at attributes n) w) (slice_get w.store k)
effect p (prim.Attr attr.Set) (Given (ObjVal k) ∷ Written (arg.Number n) ∷ Given v ∷ []) w =
    of_instance (λ class attributes. slot_set k class n attributes v (slot_in p class n) (attribute_at attributes n) w) (slice_get w.store k)
effect p (prim.Global global.Get) (Written (arg.Global name) ∷ []) w = got name (global_at p w name) w
effect p (prim.Global global.Set) (Written (arg.Global name) ∷ Given v ∷ []) w =
    stored (number_of_global p name) (global_at p w name) (Some v) w
effect p (prim.Global global.Clear) (Written (arg.Global name) ∷ []) w =
    stored (number_of_global p name) (global_at p w name) None w
effect p (prim.Exc exc.New) (Written (arg.Text name) ∷ Given (StrVal text) ∷ []) w = made_exception (class_named name) text w
effect p (prim.Exc exc.Str) (Given (ExcVal e) ∷ []) w = Gives (StrVal e.text) w
effect p (prim.Err err.SetObject) (Given (ExcVal e) ∷ []) w = Fails e w
effect p (prim.Err err.Unbound) (Written (arg.Text name) ∷ []) w = Fails (unbound name) w
effect p (prim.Err err.Occurred) [] w = Gives (BoolVal (is_some w.pending)) w
effect p (prim.Err err.Matches) (Written (arg.Text name) ∷ []) w = matched (class_named name) w.pending w
effect p (prim.Err err.Catch) [] w = caught w.pending w
effect p (prim.Io io.Write) (Given (StrVal text) ∷ []) w = Acts (record w { output = w.output ++ text })
effect p (prim.Io io.Input) [] w = line_read w.items w
effect p _ _ w = Wrong
