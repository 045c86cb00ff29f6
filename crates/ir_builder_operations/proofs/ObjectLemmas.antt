-- What primitives do with objects is what the source does with them, unless it is stuck.
use Rattle.ir_builder_operations.proofs.Common.{◌≡◌, refl, sym, ap, ℕ, ◌<◌, Bool, true, false, List, [], ◌∷◌, ◌++◌, length, take, Option, Some, None, cond, Ok, Err, ◌⊎◌, inl, inr, ℤ, pos, negsuc, slice_get, slice_set, codes, OutOfRange, IndexError, lies_within, place_of, thrown, counted_length, Value, IntVal, BoolVal, NoneVal, TupleVal, ObjVal, Object, ListObj, DictObj, InstObj, listed, Primitive, State, Outcome, Does, Gives, Stops, on_to, give, needs, sure, raise_new, with_place, as_list, counted, ◌>>◌, Effect, Given, Showing, Shows, world, Answers, Throws, leaves_all, ActsAs, IsStuck, Performs, performs, boxed, taken_as, list_length, tuple_length, is_absent, item_changed, list_item, pop_item, make}
use Rattle.source_meaning.specs.State.{Stuck, put}
use Rattle.ir_core.specs.Effects.{Gives as Giving, native_in, of_list, of_value, item_at, put_at, popped, with_object}
use Rattle.c_core.specs.declared.primitive.Primitive.TheVariants as prim
use Rattle.c_core.specs.declared.primitive.Int64Prim.TheVariants as int64
use Rattle.c_core.specs.declared.primitive.TaggedPrim.TheVariants as tagged
use Rattle.c_core.specs.declared.primitive.BoolPrim.TheVariants as bool
use Rattle.c_core.specs.declared.primitive.ObjectPrim.TheVariants as object
use Rattle.c_core.specs.declared.primitive.ListPrim.TheVariants as list
use Rattle.c_core.specs.declared.primitive.TuplePrim.TheVariants as tuple
use Rattle.py_typed.specs.Sorts as sort
use Rattle.ir_builder_operations.proofs.TextLemmas.{counted_is, get_there, place_below}

-- ---- numbers and bools as objects

pub int_boxed : (n : ℤ) → Performs (Shows (sort.Optional sort.Int)) (prim.Tagged tagged.Box) (Given (IntVal n) ∷ []) (give (IntVal n))
int_boxed n = performs (Shows (sort.Optional sort.Int)) (prim.Tagged tagged.Box) (Given (IntVal n) ∷ []) _ (Answers (IntVal n)) tt (λ p w. refl) (refl, inr (n, refl)) (λ s. refl)

pub native_boxed : (n : ℤ) → lies_within 63 n ≡ true → Performs (Shows (sort.Optional sort.I64)) (prim.Int64 int64.Box) (Given (IntVal n) ∷ []) (give (IntVal n))
native_boxed n e = performs (Shows (sort.Optional sort.I64)) (prim.Int64 int64.Box) (Given (IntVal n) ∷ []) _ (Answers (IntVal n)) tt (λ p w. refl) (refl, inr (n, refl, e)) (λ s. refl)

pub flag_boxed : (b : Bool) → Performs (Shows (sort.Optional sort.Bool)) (prim.Bool bool.Box) (Given (BoolVal b) ∷ []) (give (BoolVal b))
flag_boxed b = performs (Shows (sort.Optional sort.Bool)) (prim.Bool bool.Box) (Given (BoolVal b) ∷ []) _ (Answers (BoolVal b)) tt (λ p w. refl) (refl, inr (b, refl)) (λ s. refl)

-- and taken out again
pub int_unboxed : (v : Value) → Performs (Shows sort.Int) (prim.Tagged tagged.Unbox) (Given v ∷ []) (taken_as sort.Int v)
int_unboxed (IntVal n) = performs (Shows sort.Int) (prim.Tagged tagged.Unbox) (Given (IntVal n) ∷ []) _ (Answers (IntVal n)) tt (λ p w. refl) (refl, (n, refl)) (λ s. refl)
int_unboxed v = λ p s. inl (s, refl)

native_by : (n : ℤ) (b : Bool) → lies_within 63 n ≡ b → (s : State) → IsStuck (needs b (give (IntVal n)) s) ⊎ ActsAs (Shows sort.I64) (prim.Int64 int64.Unbox) (native_in (cond b (Ok n) (Err OutOfRange)) (world None s)) s (needs b (give (IntVal n)) s)
native_by n true e s = inr record { answer = Answers (IntVal n); behind = s; leaves = leaves_all s; allowed = tt; effects = refl; shown = (refl, (n, refl, e)); does = refl }
native_by n false e s = inl (s, refl)

pub native_unboxed : (v : Value) → Performs (Shows sort.I64) (prim.Int64 int64.Unbox) (Given v ∷ []) (taken_as sort.I64 v)
native_unboxed (IntVal n) = λ p s. native_by n (lies_within 63 n) refl s
native_unboxed v = λ p s. inl (s, refl)

pub flag_unboxed : (v : Value) → Performs (Shows sort.Bool) (prim.Bool bool.Unbox) (Given v ∷ []) (taken_as sort.Bool v)
flag_unboxed (BoolVal b) = performs (Shows sort.Bool) (prim.Bool bool.Unbox) (Given (BoolVal b) ∷ []) _ (Answers (BoolVal b)) tt (λ p w. refl) (refl, (b, refl)) (λ s. refl)
flag_unboxed v = λ p s. inl (s, refl)

-- ---- None

pub absence_performs : (v : Value) → Performs (Shows sort.Bool) (prim.Object object.IsNone) (Given v ∷ []) (is_absent v)
absence_performs NoneVal = performs (Shows sort.Bool) (prim.Object object.IsNone) (Given NoneVal ∷ []) _ (Answers (BoolVal true)) tt (λ p w. refl) (refl, (true, refl)) (λ s. refl)
absence_performs v = performs (Shows sort.Bool) (prim.Object object.IsNone) (Given v ∷ []) _ (Answers (BoolVal false)) tt (λ p w. refl) (refl, (false, refl)) (λ s. refl)

-- ---- tuples

pub tuple_length_performs : (v : Value) → Performs (Shows sort.Int) (prim.Tuple tuple.Len) (Given v ∷ []) (tuple_length v)
tuple_length_performs (TupleVal parts) =
    performs (Shows sort.Int) (prim.Tuple tuple.Len) (Given (TupleVal parts) ∷ []) _ (Answers (IntVal (pos (counted_length (length (listed parts)))))) tt (λ p w. refl) (refl, (pos (counted_length (length (listed parts))), refl))
    (λ s. ap (λ n. Gives (IntVal (pos n)) s) (sym (counted_is (length (listed parts)))))
tuple_length_performs v = λ p s. inl (s, refl)

-- ---- lists

-- what is done with the items of a list; with no list the source is stuck
list_acts : (K : Showing) (q : Primitive) (s : State) (g : List Value → Effect) (h : Option Object → Outcome Value) → ((items : List Value) → IsStuck (h (Some (ListObj items))) ⊎ ActsAs K q (g items) s (h (Some (ListObj items)))) → ((pairs : List (Value × Value)) → h (Some (DictObj pairs)) ≡ Stops Stuck s) → ((c : ℕ) (vs : List (Option Value)) → h (Some (InstObj c vs)) ≡ Stops Stuck s) → h None ≡ Stops Stuck s → (o : Option Object) → IsStuck (h o) ⊎ ActsAs K q (of_list g o) s (h o)
list_acts K q s g h acts dict inst none (Some (ListObj items)) = acts items
list_acts K q s g h acts dict inst none (Some (DictObj pairs)) = inl (s, dict pairs)
list_acts K q s g h acts dict inst none (Some (InstObj c vs)) = inl (s, inst c vs)
list_acts K q s g h acts dict inst none None = inl (s, none)

pub empty_list_performs : Performs (Shows boxed) (prim.List list.New) [] (make (ListObj []))
empty_list_performs p s = inr record { answer = Answers (ObjVal (length s.store)); behind = record s { store = s.store ++ ListObj [] ∷ [] }; leaves = record { locals = refl; turns = refl }; allowed = tt; effects = refl; shown = (refl, tt); does = refl }

pub list_length_performs : (v : Value) → Performs (Shows sort.Int) (prim.List list.Len) (Given v ∷ []) (list_length v)
list_length_performs (ObjVal k) = λ p s. list_acts (Shows sort.Int) (prim.List list.Len) s _ (λ o. as_list (λ k vs. give (IntVal (pos (counted (length vs))))) k o s)
    (λ items. inr record { answer = Answers (IntVal (pos (counted_length (length items)))); behind = s; leaves = leaves_all s; allowed = tt; effects = refl; shown = (refl, (pos (counted_length (length items)), refl)); does = ap (λ n. Gives (IntVal (pos n)) s) (sym (counted_is (length items))) })
    (λ pairs. refl) (λ c vs. refl) refl (slice_get s.store k)
list_length_performs v = λ p s. inl (s, refl)

-- the item at a place
value_there : (s : State) (o : Option Value) → IsStuck (sure o s) ⊎ ActsAs (Shows boxed) (prim.List list.GetItem) (of_value (λ v. Giving v (world None s)) o) s (sure o s)
value_there s None = inl (s, refl)
value_there s (Some v) = inr record { answer = Answers v; behind = s; leaves = leaves_all s; allowed = tt; effects = refl; shown = (refl, tt); does = refl }

abbrev item_of : List Value → Option ℕ → Does Value
item_of items o = with_place (raise_new IndexError (codes "list index out of range")) (λ j. sure (slice_get items j)) o

item_there : (s : State) (items : List Value) (o : Option ℕ) → IsStuck (item_of items o s) ⊎ ActsAs (Shows boxed) (prim.List list.GetItem) (item_at o items (world None s)) s (item_of items o s)
item_there s items None = inr record { answer = Throws (thrown IndexError (codes "list index out of range")); behind = s; leaves = leaves_all s; allowed = tt; effects = refl; shown = tt; does = refl }
item_there s items (Some j) = value_there s (slice_get items j)

pub item_performs : (l : Value) (i : ℤ) → Performs (Shows boxed) (prim.List list.GetItem) (Given l ∷ Given (IntVal i) ∷ []) (list_item l (IntVal i))
item_performs (ObjVal k) i = λ p s. list_acts (Shows boxed) (prim.List list.GetItem) s _ (λ o. as_list (λ k vs. item_of vs (place_of (length vs) i)) k o s)
    (λ items. item_there s items (place_of (length items) i)) (λ pairs. refl) (λ c vs. refl) refl (slice_get s.store k)
item_performs v i = λ p s. inl (s, refl)

-- another item at a place
abbrev item_set : ℕ → List Value → Value → Option ℕ → Does Value
item_set k items v o = with_place (raise_new IndexError (codes "list assignment index out of range")) (λ j. put k (ListObj (slice_set items j v))) o >> give (BoolVal true)

abbrev behind_put : ℕ → Object → State → State
behind_put k o s = record s { store = slice_set s.store k o }

change_there : (s : State) (k : ℕ) (items : List Value) (v : Value) (j : ℕ) (o : Option Value) (old : Value) → o ≡ Some old → ActsAs (Shows sort.Bool) (prim.List list.SetItem) (of_value (λ u. Giving (BoolVal true) (with_object k (ListObj (slice_set items j v)) (world None s))) o) s (item_set k items v (Some j) s)
change_there s k items v j o old e = record { answer = Answers (BoolVal true); behind = behind_put k (ListObj (slice_set items j v)) s; leaves = record { locals = refl; turns = refl }; allowed = tt; effects = ap (of_value (λ u. Giving (BoolVal true) (with_object k (ListObj (slice_set items j v)) (world None s)))) e; shown = (refl, (true, refl)); does = refl }

set_there : (s : State) (k : ℕ) (items : List Value) (v : Value) (o : Option ℕ) → ((j : ℕ) → o ≡ Some j → j < length items) → ActsAs (Shows sort.Bool) (prim.List list.SetItem) (put_at k o items v (world None s)) s (item_set k items v o s)
set_there s k items v None below = record { answer = Throws (thrown IndexError (codes "list assignment index out of range")); behind = s; leaves = leaves_all s; allowed = tt; effects = refl; shown = tt; does = refl }
set_there s k items v (Some j) below = let there = get_there items j (below j refl) in change_there s k items v j (slice_get items j) there.0 there.1

pub change_performs : (l : Value) (i : ℤ) (v : Value) → Performs (Shows sort.Bool) (prim.List list.SetItem) (Given l ∷ Given (IntVal i) ∷ Given v ∷ []) (item_changed l (IntVal i) v)
change_performs (ObjVal k) i v = λ p s. list_acts (Shows sort.Bool) (prim.List list.SetItem) s _ (λ o. on_to (as_list (λ k vs. with_place (raise_new IndexError (codes "list assignment index out of range")) (λ j. put k (ListObj (slice_set vs j v))) (place_of (length vs) i)) k o s) (λ _. give (BoolVal true)))
    (λ items. inr (set_there s k items v (place_of (length items) i) (λ j e. place_below (length items) i j e))) (λ pairs. refl) (λ c vs. refl) refl (slice_get s.store k)
change_performs l i v = λ p s. inl (s, refl)

-- the last item, taken out
abbrev last_of : ℕ → List Value → Option ℕ → Does Value
last_of k items o = with_place (raise_new IndexError (codes "pop from empty list")) (λ j. put k (ListObj (take j items)) >> sure (slice_get items j)) o

last_there : (s : State) (k : ℕ) (items : List Value) (j : ℕ) (o : Option Value) → IsStuck (on_to (put k (ListObj (take j items)) s) (λ _. sure o)) ⊎ ActsAs (Shows boxed) (prim.List list.Pop) (of_value (λ v. Giving v (with_object k (ListObj (take j items)) (world None s))) o) s (on_to (put k (ListObj (take j items)) s) (λ _. sure o))
last_there s k items j None = inl (behind_put k (ListObj (take j items)) s, refl)
last_there s k items j (Some v) = inr record { answer = Answers v; behind = behind_put k (ListObj (take j items)) s; leaves = record { locals = refl; turns = refl }; allowed = tt; effects = refl; shown = (refl, tt); does = refl }

pop_there : (s : State) (k : ℕ) (items : List Value) (o : Option ℕ) → IsStuck (last_of k items o s) ⊎ ActsAs (Shows boxed) (prim.List list.Pop) (popped k o items (world None s)) s (last_of k items o s)
pop_there s k items None = inr record { answer = Throws (thrown IndexError (codes "pop from empty list")); behind = s; leaves = leaves_all s; allowed = tt; effects = refl; shown = tt; does = refl }
pop_there s k items (Some j) = last_there s k items j (slice_get items j)

pub pop_performs : (l : Value) → Performs (Shows boxed) (prim.List list.Pop) (Given l ∷ []) (pop_item l)
pop_performs (ObjVal k) = λ p s. list_acts (Shows boxed) (prim.List list.Pop) s _ (λ o. as_list (λ k vs. last_of k vs (place_of (length vs) (negsuc 0))) k o s)
    (λ items. pop_there s k items (place_of (length items) (negsuc 0))) (λ pairs. refl) (λ c vs. refl) refl (slice_get s.store k)
pop_performs l = λ p s. inl (s, refl)
