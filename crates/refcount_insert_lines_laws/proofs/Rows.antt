-- Each primitive does with words what it does with values, one row one case.
use Rattle.std.proofs.Common.{◌≡◌, ◌≢◌, refl, sym, ◌∙◌, ap, subst, ℕ, zero, suc, Bool, true, false, not, ◌&&◌, cond, List, [], ◌∷◌, ◌++◌, ◌+◌, length, take, drop, replicate, Option, Some, None, Result, Ok, Err}
use Rattle.std.specs.Prelude.{ℤ, pos, negsuc, int_lt, nat_lt, is_some, map, slice_get, slice_set}
use Rattle.std.specs.Fmt.{signed_decimal}
use Rattle.std.specs.List.{position, position_or_len}
use Rattle.std.specs.Option.{option_and_then, option_map}
use Rattle.std.specs.Ordering.{int_eq}
use Rattle.std.specs.Str.{bytes_eq}
use Rattle.std.specs.Str.Parse.{signed_digits_value}
use Rattle.value_core.specs.declared.arith.Arith.{Arith}
use Rattle.value_core.specs.declared.exception.ExcClass.{ExcClass}
use Rattle.value_core.specs.Characters.{place_of}
use Rattle.value_core.specs.Arithmetic.{is_short, int_add, int_sub, int_mul, int_neg, int_floor_div, int_modulo, int_shl, int_shr, int_to_i64, i64_add, i64_sub, i64_mul, i64_neg, i64_floor_div, i64_modulo, i64_shl, i64_shr}
use Rattle.value_core.specs.Ending.{Over, Broken}
use Rattle.value_core.specs.Exceptions.{Thrown, class_named, is_under}
use Rattle.value_core.specs.Items as item
use Rattle.value_core.specs.Items.{Items}
use Rattle.value_core.specs.Value.{Value, IntVal, BoolVal, NoneVal, StrVal, TupleVal, ExcVal, ObjVal, Values, no_values, value_then, listed, tupled, ListObj, DictObj, InstObj}
use Rattle.c_core.specs.declared.code.CClass.{CClass}
use Rattle.c_core.specs.declared.code.CArg.TheVariants as c_arg
use Rattle.c_core.specs.declared.code.Code.{Code}
use Rattle.c_core.specs.declared.primitive.Primitive.{Primitive}
use Rattle.c_core.specs.declared.primitive.Primitive.TheVariants as prim
use Rattle.c_core.specs.declared.primitive.Int64Prim.TheVariants as int64
use Rattle.c_core.specs.declared.primitive.TaggedPrim.TheVariants as tagged
use Rattle.c_core.specs.declared.primitive.BoolPrim.TheVariants as bool
use Rattle.c_core.specs.declared.primitive.ObjectPrim.TheVariants as object
use Rattle.c_core.specs.declared.primitive.StrPrim.TheVariants as str
use Rattle.c_core.specs.declared.primitive.ListPrim.TheVariants as list
use Rattle.c_core.specs.declared.primitive.DictPrim.TheVariants as dict
use Rattle.c_core.specs.declared.primitive.TuplePrim.TheVariants as tuple
use Rattle.c_core.specs.declared.primitive.InstancePrim.TheVariants as instance
use Rattle.c_core.specs.declared.primitive.ExcPrim.TheVariants as exc
use Rattle.c_core.specs.declared.primitive.ErrPrim.TheVariants as err
use Rattle.c_core.specs.declared.primitive.IoPrim.TheVariants as io
use Rattle.c_core.specs.Cells.{content_at}
use Rattle.c_core.specs.Machine.{Word, ShortInt, BigInt, Native, CharWord, ObjectCell, NoneObject, TrueObject, FalseObject, NoObject, IntCell, StrCell, ListCell, DictCell, TupleCell, InstCell, ExcCell, refs_of, MachineState}
use Rattle.c_core.specs.Stands.{IsLive}
use Rattle.c_core.specs.declared.code.Kind.TheVariants.{Object as ObjectKind}
use Rattle.c_core.specs.Keys.{Key, is_key, key_of, key_place}
use Rattle.c_core.specs.Primitives.{Is, Anything, MaySteal, Outcome, Owned, Lent, row_of}
use Rattle.c_core.specs.Arguments.{int_in, key_as, word_in}
use Rattle.c_core.specs.Arguments as machines
use Rattle.c_core.specs.Step.{truth_word, of_int, of_ints}
use Rattle.c_core.specs.Step as steps
use Rattle.c_core.specs.Strings.{counted_length, text_less, text_length, text_item, writes_long}
use Rattle.ir_core.specs.declared.code.RType.{RType}
use Rattle.ir_core.specs.declared.code.RType.TheVariants.{Int, I64, Bool as BoolType, Ref}
use Rattle.ir_core.specs.declared.code.PArg.TheVariants as arg
use Rattle.ir_core.specs.declared.code.Program.{Program}
use Rattle.ir_core.specs.Registers.{error_of}
use Rattle.ir_core.specs.Effects.{World, Argument, Effect, Wrong, Gives, Acts, with_object, truth_number, key_of_value, place_of_key}
use Rattle.ir_core.specs.Effects as program
use Rattle.refcount_insert_lines_laws.specs.Matching.{type_in, Boxed, PartsBoxed, AllBoxed, PairsBoxed, AttributesFit, StoreFits, Fits, tagged_error, short, big, native, char_error, no_object, boxed, PendingFits, WorldFits}
use Rattle.refcount_insert_lines_laws.proofs.Growing.{parts_grow}
use Rattle.refcount_insert_lines_laws.proofs.Places.{none_set}
use Rattle.refcount_insert_lines_laws.proofs.Words.{char_fits}
use Rattle.refcount_insert_lines_laws.proofs.Reading.{IsRead, read_none, read_true, read_false, read_cell, is_native, is_truth, is_number, owns_short, owns_big, is_any, owns_any, may_own_any, is_box, is_text, is_exception, is_stolen, is_list, is_tuple, is_dict, is_a_key, owns_key, writes_number, writes_text, writes_decimal, writes_exception, writes_class, word_key, AllMeet, no_more, left_out, one_more}
use Rattle.refcount_insert_lines_laws.proofs.Agreeing.{Changing, Agrees, both_wrong, both_say, both_share, both_lend, both_make, both_make_object, both_change, both_change_answering, both_make_int, both_write, both_fail, both_pend, both_catch, both_read, both_skip, both_stop}

-- the type of what a row answers
abbrev pub answer_of : Outcome → Option RType
answer_of (Owned (Is k)) = Some (type_in k)
answer_of (Lent (Is k)) = Some (type_in k)
answer_of _ = None

-- the rows of globals and of attributes stand elsewhere
abbrev pub stands_elsewhere : Primitive → Bool
stands_elsewhere (prim.Global q) = true
stands_elsewhere (prim.Attr q) = true
stands_elsewhere _ = false

module _ (p : Program) (code : Code) (classes : code.classes ≡ p.classes) (w : World) (s : MachineState) (world : WorldFits p w s) where
  store : StoreFits s code.classes w.store
  store = subst (λ z. StoreFits s z w.store) (sym classes) world.store

  abbrev A : Option RType → Effect → steps.Effect → Type 0
  A o x y = Agrees p w s o x y

  -- a new cell, which never changes
  makes_text : (t : List ℕ) → A (Some Ref) (Gives (StrVal t) w) (steps.Makes (StrCell t))
  makes_text t = both_make (StrVal t) (StrCell t) refl (λ u g live. (_, refl, live))

  makes_exception : (e : Thrown) → A (Some Ref) (Gives (ExcVal e) w) (steps.Makes (ExcCell e))
  makes_exception e = both_make (ExcVal e) (ExcCell e) refl (λ u g live. (_, refl, live))

  makes_number : (n : ℤ) → A (Some Ref) (Gives (IntVal n) w) (steps.Makes (IntCell n))
  makes_number n = both_make (IntVal n) (IntCell n) refl (λ u g live. (_, refl, live))

  says_native : (n : ℤ) → A (Some I64) (Gives (IntVal n) w) (steps.Says (Native n))
  says_native n = both_say I64 (IntVal n) (Native n) (native n)

  says_truth : (b : Bool) → A (Some BoolType) (Gives (BoolVal b) w) (steps.Says (truth_word b))
  says_truth b = both_say BoolType (BoolVal b) (truth_word b) (char_fits s b)

  fails_as : (t : RType) (y : Word) → Fits s t (error_of t) y → (u : RType) → Some t ≡ Some u → Fits s u (error_of u) y
  fails_as t y fits u is = let same : t ≡ u = cc in subst (λ z. Fits s z (error_of z) y) same fits

  native_row : (r : Result ℤ Arith) → A (Some I64) (program.native_or r w) (steps.native_or r)
  native_row (Ok n) = says_native n
  native_row (Err x) = both_fail (Some I64) _ _ (fails_as I64 _ (native _))

  fitted_row : (r : Result ℤ Arith) → A (Some I64) (program.fitted r w) (steps.fitted r)
  fitted_row (Ok n) = says_native n
  fitted_row (Err x) = both_fail (Some I64) _ _ (fails_as I64 _ (native _))

  int_row : (n : ℤ) → A (Some Int) (Gives (IntVal n) w) (steps.tagged_effect n)
  int_row n = by (is_short n)
    where
      by : (b : Bool) → A (Some Int) (Gives (IntVal n) w) (cond b (steps.Says (ShortInt n)) (steps.MakesInt n))
      by true = both_say Int (IntVal n) (ShortInt n) (short n)
      by false = both_make_int n

  ints_row : (r : Result ℤ Arith) → A (Some Int) (program.int_or r w) (steps.tagged_or r)
  ints_row (Ok n) = int_row n
  ints_row (Err x) = both_fail (Some Int) _ _ (fails_as Int _ tagged_error)

  -- numbers, short or in cells
  one_int : (o : Option RType) (x : Effect) (F : ℤ → steps.Effect) (a : machines.Argument) (n : ℤ) → int_in a ≡ Some n → A o x (F n) → A o x (of_int F (int_in a))
  one_int o x F a n e h = subst (λ z. A o x (of_int F z)) (sym e) h

  two_ints : (o : Option RType) (x : Effect) (F : ℤ → ℤ → steps.Effect) (a b : machines.Argument) (m n : ℤ) → int_in a ≡ Some m → int_in b ≡ Some n → A o x (F m n) → A o x (of_ints F (int_in a) (int_in b))
  two_ints o x F a b m n e f h =
      subst (λ z. A o x (of_ints F z (int_in b))) (sym e) (subst (λ z. A o x (of_int (F m) z)) (sym f) h)

  written_row : (text : List ℕ) (n : ℤ) → A (Some Int) (program.written_int text n w) (steps.written_int text n)
  written_row text n = by (writes_long text n)
    where
      by : (b : Bool) → A (Some Int) (cond b (Gives (IntVal n) w) program.Wrong) (cond b (steps.MakesInt n) steps.Wrong)
      by true = both_make_int n
      by false = both_wrong (Some Int) steps.Wrong

  item_row : (o : Option (List ℕ)) → A (Some Ref) (program.item_or o w) (steps.item_or o)
  item_row None = both_fail (Some Ref) _ _ (fails_as Ref _ no_object)
  item_row (Some t) = makes_text t

  line_row : (i : Items) → A (Some Ref) (program.line_read i w) (steps.line_read i)
  line_row item.Eof = both_fail (Some Ref) _ _ (fails_as Ref _ no_object)
  line_row item.Broken = both_stop (Some Ref) Broken tt
  line_row item.Over = both_stop (Some Ref) Over tt
  line_row (item.Line t rest) = both_read t rest
  line_row (item.Bad rest) = both_skip (Some Ref) rest _ _ (fails_as Ref _ no_object)

  exception_row : (o : Option ExcClass) (t : List ℕ) → A (Some Ref) (program.made_exception o t w) (steps.made_exception o t)
  exception_row None t = both_wrong (Some Ref) steps.Wrong
  exception_row (Some class) t = makes_exception _

  -- the pending exception
  same_exception : (o : Option Thrown) (q : Option ℕ) → PendingFits s o q → option_and_then steps.exception_in (option_and_then (content_at s.cells) q) ≡ o
  same_exception None None at = refl
  same_exception None (Some c) at = absurd at
  same_exception (Some e) None at = absurd at
  same_exception (Some e) (Some c) at = ap (option_and_then steps.exception_in) at

  matched_row : (c : Option ExcClass) (o : Option Thrown) → A (Some BoolType) (program.matched c o w) (steps.matched c o)
  matched_row None o = both_wrong (Some BoolType) steps.Wrong
  matched_row (Some c) None = both_wrong (Some BoolType) steps.Wrong
  matched_row (Some c) (Some e) = says_truth (is_under e.class c)

  occurred_row : (o : Option Thrown) (q : Option ℕ) → PendingFits s o q → A (Some BoolType) (Gives (BoolVal (is_some o)) w) (steps.Says (truth_word (is_some q)))
  occurred_row None None at = says_truth false
  occurred_row None (Some c) at = absurd at
  occurred_row (Some e) None at = absurd at
  occurred_row (Some e) (Some c) at = says_truth true

  caught_row : (o : Option Thrown) (q : Option ℕ) → PendingFits s o q → A (Some Ref) (program.caught o w) (steps.caught q)
  caught_row None None at = both_wrong (Some Ref) steps.Wrong
  caught_row None (Some c) at = absurd at
  caught_row (Some e) None at = absurd at
  caught_row (Some e) (Some c) at = both_catch e c at

  -- ---- boxes
  native_in_row : (r : Result ℤ Arith) → A (Some I64) (program.native_in r w) (steps.native_in r)
  native_in_row (Ok n) = says_native n
  native_in_row (Err x) = both_wrong (Some I64) steps.Wrong

  unboxed_row : (n : ℤ) (c : ℕ) → IsLive s c (IntCell n) → A (Some Int) (Gives (IntVal n) w) (steps.unboxed c n)
  unboxed_row n c live = by (is_short n)
    where
      by : (b : Bool) → A (Some Int) (Gives (IntVal n) w) (cond b (steps.Says (ShortInt n)) (steps.Shares (BigInt c)))
      by true = both_say Int (IntVal n) (ShortInt n) (short n)
      by false = both_share Int (IntVal n) (BigInt c) (big n c live)

  unbox_row : (v : Value) (y : Word) (a : machines.Argument) → Boxed s v y → IsRead s y a → A (Some BoolType) (program.effect p (prim.Bool bool.Unbox) (program.Given v ∷ []) w) (steps.effect code s (prim.Bool bool.Unbox) (a ∷ []))
  unbox_row (BoolVal true) y a m read_none = let e : NoneObject ≡ TrueObject = m in absurd (cc)
  unbox_row (BoolVal true) y a m read_true = says_truth true
  unbox_row (BoolVal true) y a m read_false = let e : FalseObject ≡ TrueObject = m in absurd (cc)
  unbox_row (BoolVal true) y a m (read_cell c x live) = let e : ObjectCell c ≡ TrueObject = m in absurd (cc)
  unbox_row (BoolVal false) y a m read_none = let e : NoneObject ≡ FalseObject = m in absurd (cc)
  unbox_row (BoolVal false) y a m read_true = let e : TrueObject ≡ FalseObject = m in absurd (cc)
  unbox_row (BoolVal false) y a m read_false = says_truth false
  unbox_row (BoolVal false) y a m (read_cell c x live) = let e : ObjectCell c ≡ FalseObject = m in absurd (cc)
  unbox_row _ y a m r = both_wrong (Some BoolType) _

  -- a value that is not None
  not_none : (v : Value) (y : Word) → Boxed s v y → y ≡ NoneObject → v ≡ NoneVal
  not_none (IntVal n) y m e = let f : ObjectCell m.0 ≡ NoneObject = sym m.1 ∙ e in absurd (cc)
  not_none (BoolVal true) y m e = let f : TrueObject ≡ NoneObject = sym m ∙ e in absurd (cc)
  not_none (BoolVal false) y m e = let f : FalseObject ≡ NoneObject = sym m ∙ e in absurd (cc)
  not_none NoneVal y m e = refl
  not_none (StrVal t) y m e = let f : ObjectCell m.0 ≡ NoneObject = sym m.1 ∙ e in absurd (cc)
  not_none (TupleVal parts) y m e = let f : ObjectCell m.0 ≡ NoneObject = sym m.1 ∙ e in absurd (cc)
  not_none (ExcVal x) y m e = let f : ObjectCell m.0 ≡ NoneObject = sym m.1 ∙ e in absurd (cc)
  not_none (ObjVal k) y m e = let f : ObjectCell m.0 ≡ NoneObject = sym m.1 ∙ e in absurd (cc)

  abbrev NoneRow : Value → machines.Argument → Type 0
  NoneRow v a =
      A (Some BoolType) (program.effect p (prim.Object object.IsNone) (program.Given v ∷ []) w) (steps.effect code s (prim.Object object.IsNone) (a ∷ []))

  some_row : (v : Value) (y : Word) (a : machines.Argument) → Boxed s v y → y ≢ NoneObject → steps.effect code s (prim.Object object.IsNone) (a ∷ []) ≡ steps.Says (CharWord 0) → NoneRow v a
  some_row NoneVal y a m ne e = absurd (ne m)
  some_row v y a m ne e = subst (λ z. A (Some BoolType) (program.effect p (prim.Object object.IsNone) (program.Given v ∷ []) w) z) (sym e) (says_truth false)

  none_row : (v : Value) (y : Word) (a : machines.Argument) → Boxed s v y → IsRead s y a → NoneRow v a
  none_row v y a m read_none = subst (λ z. NoneRow z (machines.Plain NoneObject)) (sym (not_none v NoneObject m refl)) (says_truth true)
  none_row v y a m read_true = some_row v TrueObject (machines.Plain TrueObject) m (λ e. cc) refl
  none_row v y a m read_false = some_row v FalseObject (machines.Plain FalseObject) m (λ e. cc) refl
  none_row v y a m (read_cell c x live) = some_row v (ObjectCell c) (machines.Cell c x) m (λ e. cc) refl

  -- ---- lists and tuples
  -- what stands at a place of both
  abbrev BothBoxed : Option Value → Option Word → Type 0
  BothBoxed None None = Unit {0}
  BothBoxed (Some v) (Some y) = Boxed s v y
  BothBoxed _ _ = ⊥

  all_at : (vs : List Value) (ys : List Word) → AllBoxed s vs ys → (i : ℕ) → BothBoxed (slice_get vs i) (slice_get ys i)
  all_at [] [] m i = tt
  all_at [] (y ∷ ys) m i = absurd m
  all_at (v ∷ vs) [] m i = absurd m
  all_at (v ∷ vs) (y ∷ ys) m zero = m.0
  all_at (v ∷ vs) (y ∷ ys) m (suc i) = all_at vs ys m.1 i

  all_size : (vs : List Value) (ys : List Word) → AllBoxed s vs ys → length vs ≡ length ys
  all_size [] [] m = refl
  all_size [] (y ∷ ys) m = absurd m
  all_size (v ∷ vs) [] m = absurd m
  all_size (v ∷ vs) (y ∷ ys) m = ap suc (all_size vs ys m.1)

  all_then : (vs : List Value) (ys : List Word) (v : Value) (y : Word) → AllBoxed s vs ys → Boxed s v y → AllBoxed s (vs ++ v ∷ []) (ys ++ y ∷ [])
  all_then [] [] v y m b = (b, tt)
  all_then [] (z ∷ ys) v y m b = absurd m
  all_then (u ∷ vs) [] v y m b = absurd m
  all_then (u ∷ vs) (z ∷ ys) v y m b = (m.0, all_then vs ys v y m.1 b)

  all_set : (vs : List Value) (ys : List Word) (i : ℕ) (v : Value) (y : Word) → AllBoxed s vs ys → Boxed s v y → AllBoxed s (slice_set vs i v) (slice_set ys i y)
  all_set [] [] i v y m b = tt
  all_set [] (z ∷ ys) i v y m b = absurd m
  all_set (u ∷ vs) [] i v y m b = absurd m
  all_set (u ∷ vs) (z ∷ ys) zero v y m b = (b, m.1)
  all_set (u ∷ vs) (z ∷ ys) (suc i) v y m b = (m.0, all_set vs ys i v y m.1 b)

  all_take : (vs : List Value) (ys : List Word) (i : ℕ) → AllBoxed s vs ys → AllBoxed s (take i vs) (take i ys)
  all_take vs ys zero m = tt
  all_take [] [] (suc i) m = tt
  all_take [] (z ∷ ys) (suc i) m = absurd m
  all_take (u ∷ vs) [] (suc i) m = absurd m
  all_take (u ∷ vs) (z ∷ ys) (suc i) m = (m.0, all_take vs ys i m.1)

  all_parts : (vs : Values) (ys : List Word) → PartsBoxed s vs ys → AllBoxed s (listed vs) ys
  all_parts no_values [] m = tt
  all_parts no_values (y ∷ ys) m = absurd m
  all_parts (value_then v vs) [] m = absurd m
  all_parts (value_then v vs) (y ∷ ys) m = (m.0, all_parts vs ys m.1)

  parts_all : (vs : List Value) (ys : List Word) → AllBoxed s vs ys → PartsBoxed s (tupled vs) ys
  parts_all [] [] m = tt
  parts_all [] (y ∷ ys) m = absurd m
  parts_all (v ∷ vs) [] m = absurd m
  parts_all (v ∷ vs) (y ∷ ys) m = (m.0, parts_all vs ys m.1)

  -- the values and the words that a tuple gets
  record Packed (vs : List Argument) (ys : List machines.Argument) : Type 0 where
    values : List Value
    words : List Word
    has : program.values_in vs ≡ Some values
    there : machines.words_in ys ≡ Some words
    all : AllBoxed s values words

  none_packed : Packed [] []
  none_packed = record { values = []; words = []; has = refl; there = refl; all = tt }

  one_packed : (v : Value) (y : Word) (a : machines.Argument) (vs : List Argument) (ys : List machines.Argument) → Boxed s v y → word_in ObjectKind a ≡ Some y → Packed vs ys → Packed (program.Given v ∷ vs) (a ∷ ys)
  one_packed v y a vs ys b e rest = record {
    values = v ∷ rest.values;
    words = y ∷ rest.words;
    has = ap (option_map (λ us. v ∷ us)) rest.has;
    there = ap (option_and_then (λ z. option_map (λ zs. z ∷ zs) (machines.words_in ys))) e ∙ ap (option_map (λ zs. y ∷ zs)) rest.there;
    all = (b, rest.all);
  }

  may_pack : (n : ℕ) (vs : List Argument) (ys : List machines.Argument) → AllMeet w s code (replicate n (MaySteal (Is ObjectKind) Anything)) vs ys → Packed vs ys
  may_pack zero vs ys no_more = none_packed
  may_pack (suc n) vs ys left_out = none_packed
  may_pack (suc n) _ _ (one_more {vs = vs} {ys = ys} (may_own_any v y a b e) rest) = one_packed v y a vs ys b e (may_pack n vs ys rest)

  if_packed : (values : List Value) (words : List Word) → AllBoxed s values words → (b : Bool) → A (Some Ref) (cond b (Gives (TupleVal (tupled values)) w) Wrong) (steps.Makes (TupleCell words))
  if_packed values words all true =
      both_make (TupleVal (tupled values)) (TupleCell words) refl (λ u g live. (_, refl, (words, live, parts_grow s u g (tupled values) words (parts_all values words all))))
  if_packed values words all false = both_wrong (Some Ref) _

  packed_row : (vs : List Argument) (ys : List machines.Argument) → Packed vs ys → A (Some Ref) (program.effect p (prim.Tuple tuple.Pack) vs w) (steps.effect code s (prim.Tuple tuple.Pack) ys)
  packed_row vs ys k =
      let values : List Value = k.values in
      let words : List Word = k.words in
      subst (λ z. A (Some Ref) (program.of_values (λ us. program.packed us w) z) (steps.of_words (λ zs. steps.Makes (TupleCell zs)) (machines.words_in ys))) (sym k.has)
      (subst (λ z. A (Some Ref) (program.packed values w) (steps.of_words (λ zs. steps.Makes (TupleCell zs)) z)) (sym k.there)
      (if_packed values words k.all (nat_lt 0 (length values) && nat_lt (length values) 17)))

  -- both count the same number of items
  counted_row : (vs : List Value) (ys : List Word) → AllBoxed s vs ys → A (Some Int) (Gives (IntVal (pos (counted_length (length vs)))) w) (steps.tagged_effect (pos (counted_length (length ys))))
  counted_row vs ys m =
      subst (λ n. A (Some Int) (Gives (IntVal (pos (counted_length n))) w) (steps.tagged_effect (pos (counted_length (length ys))))) (sym (all_size vs ys m)) (int_row (pos (counted_length (length ys))))

  shared_row : (o : Option Value) (q : Option Word) → BothBoxed o q → A (Some Ref) (program.of_value (λ v. Gives v w) o) (steps.of_word steps.Shares q)
  shared_row None None m = both_wrong (Some Ref) steps.Wrong
  shared_row None (Some y) m = absurd m
  shared_row (Some v) None m = absurd m
  shared_row (Some v) (Some y) m = both_share Ref v y (boxed v y m)

  -- and the same where it is lent
  lent_row : (o : Option Value) (q : Option Word) → BothBoxed o q → A (Some Ref) (program.of_value (λ v. Gives v w) o) (steps.lent (steps.of_word steps.Shares q))
  lent_row None None m = both_wrong (Some Ref) steps.Wrong
  lent_row None (Some y) m = absurd m
  lent_row (Some v) None m = absurd m
  lent_row (Some v) (Some y) m = both_lend Ref v y (boxed v y m)

  lent_part_row : (vs : Values) (ys : List Word) → PartsBoxed s vs ys → (n : ℤ) → A (Some Ref) (program.part_at (listed vs) n w) (steps.lent (steps.part_at ys n))
  lent_part_row vs ys m (pos i) = lent_row (slice_get (listed vs) i) (slice_get ys i) (all_at (listed vs) ys (all_parts vs ys m) i)
  lent_part_row vs ys m (negsuc i) = both_wrong (Some Ref) steps.Wrong

  -- the machine finds the word that it was given
  given : (o : Option RType) (x : Effect) (F : Word → steps.Effect) (a : machines.Argument) (y : Word) → word_in ObjectKind a ≡ Some y → A o x (F y) → A o x (steps.of_word F (word_in ObjectKind a))
  given o x F a y e h = subst (λ z. A o x (steps.of_word F z)) (sym e) h

  part_row : (vs : Values) (ys : List Word) → PartsBoxed s vs ys → (n : ℤ) → A (Some Ref) (program.part_at (listed vs) n w) (steps.part_at ys n)
  part_row vs ys m (pos i) = shared_row (slice_get (listed vs) i) (slice_get ys i) (all_at (listed vs) ys (all_parts vs ys m) i)
  part_row vs ys m (negsuc i) = both_wrong (Some Ref) steps.Wrong

  module _ (k c : ℕ) (vs : List Value) (ys : List Word) (there : slice_get w.store k ≡ Some (ListObj vs)) (made : slice_get s.made k ≡ Some c) (live : IsLive s c (ListCell ys)) (m : AllBoxed s vs ys) where
    -- the program finds the items
    items_found : (o : Option RType) (F : List Value → Effect) (e : steps.Effect) → A o (F vs) e → A o (program.of_list F (slice_get w.store k)) e
    items_found o F e h = subst (λ z. A o (program.of_list F z) e) (sym there) h

    -- both find the same place
    same_place : (i : ℤ) → place_of (length vs) i ≡ place_of (length ys) i
    same_place i = ap (λ n. place_of n i) (all_size vs ys m)

    changing : (us : List Value) (zs : List Word) → AllBoxed s us zs → Changing p.classes s k c (ListObj us) (ListCell zs)
    changing us zs all = record { made = made; old = ListCell ys; live = live; object = refl; fits = all }

    item_at_row : (i : Option ℕ) → A (Some Ref) (program.item_at i vs w) (steps.item_at i ys)
    item_at_row None = both_fail (Some Ref) _ _ (fails_as Ref _ no_object)
    item_at_row (Some i) = shared_row (slice_get vs i) (slice_get ys i) (all_at vs ys m i)

    lent_item_row : (i : Option ℕ) → A (Some Ref) (program.item_at i vs w) (steps.lent (steps.item_at i ys))
    lent_item_row None = both_fail (Some Ref) _ _ (fails_as Ref _ no_object)
    lent_item_row (Some i) = lent_row (slice_get vs i) (slice_get ys i) (all_at vs ys m i)

    put_by : (i : ℕ) (v : Value) (y : Word) → Boxed s v y → (o : Option Value) (q : Option Word) → BothBoxed o q → A (Some BoolType) (program.of_value (λ old. Gives (BoolVal true) (with_object k (ListObj (slice_set vs i v)) w)) o) (steps.of_word (λ old. steps.Changes c (ListCell (slice_set ys i y)) (CharWord 1) (refs_of old)) q)
    put_by i v y b None None n = both_wrong (Some BoolType) steps.Wrong
    put_by i v y b None (Some z) n = absurd n
    put_by i v y b (Some u) None n = absurd n
    put_by i v y b (Some u) (Some z) n =
        both_change_answering BoolType (BoolVal true) k c _ _ (CharWord 1) (refs_of z) (changing (slice_set vs i v) (slice_set ys i y) (all_set vs ys i v y m b)) (char_fits s true)

    put_row : (i : Option ℕ) (v : Value) (y : Word) → Boxed s v y → A (Some BoolType) (program.put_at k i vs v w) (steps.put_at c i ys y)
    put_row None v y b = both_fail (Some BoolType) _ _ (fails_as BoolType _ char_error)
    put_row (Some i) v y b = put_by i v y b (slice_get vs i) (slice_get ys i) (all_at vs ys m i)

    popped_by : (i : ℕ) (o : Option Value) (q : Option Word) → BothBoxed o q → A (Some Ref) (program.of_value (λ v. Gives v (with_object k (ListObj (take i vs)) w)) o) (steps.of_word (λ y. steps.Changes c (ListCell (take i ys)) y []) q)
    popped_by i None None n = both_wrong (Some Ref) steps.Wrong
    popped_by i None (Some z) n = absurd n
    popped_by i (Some u) None n = absurd n
    popped_by i (Some u) (Some z) n =
        both_change_answering Ref u k c _ _ z [] (changing (take i vs) (take i ys) (all_take vs ys i m)) (boxed u z n)

    popped_row : (i : Option ℕ) → A (Some Ref) (program.popped k i vs w) (steps.popped c i ys)
    popped_row None = both_fail (Some Ref) _ _ (fails_as Ref _ no_object)
    popped_row (Some i) = popped_by i (slice_get vs i) (slice_get ys i) (all_at vs ys m i)

    append_row : (v : Value) (y : Word) (a : machines.Argument) → Boxed s v y → word_in ObjectKind a ≡ Some y → A None (program.of_list (λ items. Acts (with_object k (ListObj (items ++ v ∷ [])) w)) (slice_get w.store k)) (steps.of_word (λ z. steps.Changes c (ListCell (ys ++ z ∷ [])) NoneObject []) (word_in ObjectKind a))
    append_row v y a b e =
        items_found None _ _ (given None _ _ a y e (both_change k c _ _ NoneObject [] (changing (vs ++ v ∷ []) (ys ++ y ∷ []) (all_then vs ys v y m b))))

    get_row : (i : ℤ) → A (Some Ref) (program.of_list (λ items. program.item_at (place_of (length items) i) items w) (slice_get w.store k)) (steps.item_at (place_of (length ys) i) ys)
    get_row i =
        items_found (Some Ref) _ _ (subst (λ z. A (Some Ref) (program.item_at z vs w) (steps.item_at (place_of (length ys) i) ys)) (sym (same_place i)) (item_at_row (place_of (length ys) i)))

    get_lent_row : (i : ℤ) → A (Some Ref) (program.of_list (λ items. program.item_at (place_of (length items) i) items w) (slice_get w.store k)) (steps.lent (steps.item_at (place_of (length ys) i) ys))
    get_lent_row i =
        items_found (Some Ref) _ _ (subst (λ z. A (Some Ref) (program.item_at z vs w) (steps.lent (steps.item_at (place_of (length ys) i) ys))) (sym (same_place i)) (lent_item_row (place_of (length ys) i)))

    set_row : (i : ℤ) (v : Value) (y : Word) (a : machines.Argument) → Boxed s v y → word_in ObjectKind a ≡ Some y → A (Some BoolType) (program.of_list (λ items. program.put_at k (place_of (length items) i) items v w) (slice_get w.store k)) (steps.of_word (steps.put_at c (place_of (length ys) i) ys) (word_in ObjectKind a))
    set_row i v y a b e =
        items_found (Some BoolType) _ _ (given (Some BoolType) _ _ a y e (subst (λ z. A (Some BoolType) (program.put_at k z vs v w) (steps.put_at c (place_of (length ys) i) ys y)) (sym (same_place i)) (put_row (place_of (length ys) i) v y b)))

    pop_row : A (Some Ref) (program.of_list (λ items. program.popped k (place_of (length items) (negsuc 0)) items w) (slice_get w.store k)) (steps.popped c (place_of (length ys) (negsuc 0)) ys)
    pop_row =
        items_found (Some Ref) _ _ (subst (λ z. A (Some Ref) (program.popped k z vs w) (steps.popped c (place_of (length ys) (negsuc 0)) ys)) (sym (same_place (negsuc 0))) (popped_row (place_of (length ys) (negsuc 0))))

    size_row : A (Some Int) (program.of_list (λ items. Gives (IntVal (pos (counted_length (length items)))) w) (slice_get w.store k)) (steps.tagged_effect (pos (counted_length (length ys))))
    size_row =
        items_found (Some Int) _ _ (counted_row vs ys m)

  -- ---- dicts
  -- what stands at a place of both
  abbrev BothPaired : Option (Value × Value) → Option (Word × Word) → Type 0
  BothPaired None None = Unit {0}
  BothPaired (Some p) (Some q) = Boxed s p.0 q.0 × Boxed s p.1 q.1
  BothPaired _ _ = ⊥

  pairs_at : (ps : List (Value × Value)) (qs : List (Word × Word)) → PairsBoxed s ps qs → (i : ℕ) → BothPaired (slice_get ps i) (slice_get qs i)
  pairs_at [] [] m i = tt
  pairs_at [] (q ∷ qs) m i = absurd m
  pairs_at (p ∷ ps) [] m i = absurd m
  pairs_at (p ∷ ps) (q ∷ qs) m zero = (m.0, m.1)
  pairs_at (p ∷ ps) (q ∷ qs) m (suc i) = pairs_at ps qs m.2 i

  pairs_size : (ps : List (Value × Value)) (qs : List (Word × Word)) → PairsBoxed s ps qs → length ps ≡ length qs
  pairs_size [] [] m = refl
  pairs_size [] (q ∷ qs) m = absurd m
  pairs_size (p ∷ ps) [] m = absurd m
  pairs_size (p ∷ ps) (q ∷ qs) m = ap suc (pairs_size ps qs m.2)

  pairs_append : (ps rs : List (Value × Value)) (qs ts : List (Word × Word)) → PairsBoxed s ps qs → PairsBoxed s rs ts → PairsBoxed s (ps ++ rs) (qs ++ ts)
  pairs_append [] rs [] ts m n = n
  pairs_append [] rs (q ∷ qs) ts m n = absurd m
  pairs_append (p ∷ ps) rs [] ts m n = absurd m
  pairs_append (p ∷ ps) rs (q ∷ qs) ts m n = (m.0, m.1, pairs_append ps rs qs ts m.2 n)

  pairs_set : (ps : List (Value × Value)) (qs : List (Word × Word)) (i : ℕ) (p : Value × Value) (q : Word × Word) → PairsBoxed s ps qs → Boxed s p.0 q.0 → Boxed s p.1 q.1 → PairsBoxed s (slice_set ps i p) (slice_set qs i q)
  pairs_set [] [] i p q m a b = tt
  pairs_set [] (t ∷ qs) i p q m a b = absurd m
  pairs_set (r ∷ ps) [] i p q m a b = absurd m
  pairs_set (r ∷ ps) (t ∷ qs) zero p q m a b = (a, b, m.2)
  pairs_set (r ∷ ps) (t ∷ qs) (suc i) p q m a b = (m.0, m.1, pairs_set ps qs i p q m.2 a b)

  pairs_take : (ps : List (Value × Value)) (qs : List (Word × Word)) (i : ℕ) → PairsBoxed s ps qs → PairsBoxed s (take i ps) (take i qs)
  pairs_take ps qs zero m = tt
  pairs_take [] [] (suc i) m = tt
  pairs_take [] (q ∷ qs) (suc i) m = absurd m
  pairs_take (p ∷ ps) [] (suc i) m = absurd m
  pairs_take (p ∷ ps) (q ∷ qs) (suc i) m = (m.0, m.1, pairs_take ps qs i m.2)

  pairs_drop : (ps : List (Value × Value)) (qs : List (Word × Word)) (i : ℕ) → PairsBoxed s ps qs → PairsBoxed s (drop i ps) (drop i qs)
  pairs_drop ps qs zero m = m
  pairs_drop [] [] (suc i) m = tt
  pairs_drop [] (q ∷ qs) (suc i) m = absurd m
  pairs_drop (p ∷ ps) [] (suc i) m = absurd m
  pairs_drop (p ∷ ps) (q ∷ qs) (suc i) m = pairs_drop ps qs i m.2

  -- both find a key at the same place
  abbrev holds_key : Key → Value × Value → Bool
  holds_key k p = is_key k (key_of_value p.0)

  abbrev has_key : Key → Word × Word → Bool
  has_key k q = is_key k (key_of s.cells q.0)

  same_first : (k : Key) (ps : List (Value × Value)) (qs : List (Word × Word)) → PairsBoxed s ps qs → position_or_len (has_key k) qs ≡ position_or_len (holds_key k) ps
  same_first k [] [] m = refl
  same_first k [] (q ∷ qs) m = absurd m
  same_first k (p ∷ ps) [] m = absurd m
  same_first k (p ∷ ps) (q ∷ qs) m =
      ap (λ o. cond (not (is_key k o)) (1 + position_or_len (has_key k) qs) 0) (word_key code w s store p.0 q.0 m.0)
      ∙ ap (λ n. cond (not (holds_key k p)) (1 + n) 0) (same_first k ps qs m.2)

  same_key_place : (k : Key) (ps : List (Value × Value)) (qs : List (Word × Word)) → PairsBoxed s ps qs → key_place s.cells k qs ≡ place_of_key k ps
  same_key_place k ps qs m =
      ap (λ n. cond (nat_lt n (length qs)) (Some n) None) (same_first k ps qs m)
      ∙ ap (λ n. cond (nat_lt (position_or_len (holds_key k) ps) n) (Some (position_or_len (holds_key k) ps)) None) (sym (pairs_size ps qs m))

  -- both know the key
  with_key : (o : Option RType) (F : Key → Effect) (G : Key → steps.Effect) (v : Value) (a : machines.Argument) (k : Key) → key_of_value v ≡ Some k → key_as a ≡ Some k → A o (F k) (G k) → A o (program.of_key F (key_of_value v)) (steps.of_key G (key_as a))
  with_key o F G v a k e f h =
      subst (λ z. A o (program.of_key F z) (steps.of_key G (key_as a))) (sym e) (subst (λ z. A o (F k) (steps.of_key G z)) (sym f) h)

  sized_row : (b : Bool) → A (Some BoolType) (program.sized b w) (steps.sized b)
  sized_row true = says_truth true
  sized_row false = both_fail (Some BoolType) _ _ (fails_as BoolType _ char_error)

  module _ (d c : ℕ) (ps : List (Value × Value)) (qs : List (Word × Word)) (there : slice_get w.store d ≡ Some (DictObj ps)) (made : slice_get s.made d ≡ Some c) (live : IsLive s c (DictCell qs)) (m : PairsBoxed s ps qs) where
    -- the program finds the pairs
    pairs_found : (o : Option RType) (F : List (Value × Value) → Effect) (e : steps.Effect) → A o (F ps) e → A o (program.of_dict F (slice_get w.store d)) e
    pairs_found o F e h = subst (λ z. A o (program.of_dict F z) e) (sym there) h

    becomes : (us : List (Value × Value)) (zs : List (Word × Word)) → PairsBoxed s us zs → Changing p.classes s d c (DictObj us) (DictCell zs)
    becomes us zs all = record { made = made; old = DictCell qs; live = live; object = refl; fits = all }

    -- the value of a key is read
    value_by : (o : Option (Value × Value)) (q : Option (Word × Word)) → BothPaired o q → A (Some Ref) (program.of_pair (λ p. Gives p.1 w) o) (steps.of_pair (λ p. steps.Shares p.1) q)
    value_by None None n = both_wrong (Some Ref) steps.Wrong
    value_by None (Some q) n = absurd n
    value_by (Some p) None n = absurd n
    value_by (Some p) (Some q) n = both_share Ref p.1 q.1 (boxed p.1 q.1 n.1)

    value_row : (k : Key) (i : Option ℕ) → A (Some Ref) (program.value_at k i ps w) (steps.value_at k i qs)
    value_row k None = both_fail (Some Ref) _ _ (fails_as Ref _ no_object)
    value_row k (Some i) = value_by (slice_get ps i) (slice_get qs i) (pairs_at ps qs m i)

    read_row : (v : Value) (a : machines.Argument) (k : Key) → key_of_value v ≡ Some k → key_as a ≡ Some k → A (Some Ref) (program.of_dict (λ pairs. program.of_key (λ j. program.value_at j (place_of_key j pairs) pairs w) (key_of_value v)) (slice_get w.store d)) (steps.of_key (λ j. steps.value_at j (key_place s.cells j qs) qs) (key_as a))
    read_row v a k e f =
        pairs_found (Some Ref) (λ pairs. program.of_key (λ j. program.value_at j (place_of_key j pairs) pairs w) (key_of_value v)) _
        (with_key (Some Ref) (λ j. program.value_at j (place_of_key j ps) ps w) (λ j. steps.value_at j (key_place s.cells j qs) qs) v a k e f
        (subst (λ z. A (Some Ref) (program.value_at k (place_of_key k ps) ps w) (steps.value_at k z qs)) (sym (same_key_place k ps qs m)) (value_row k (place_of_key k ps))))

    -- a value is put at a key
    entry_by : (v : Value) (y z : Word) → Boxed s v z → (i : ℕ) (o : Option (Value × Value)) (q : Option (Word × Word)) → BothPaired o q → A None (program.of_pair (λ p. Acts (with_object d (DictObj (slice_set ps i (p.0, v))) w)) o) (steps.of_pair (λ p. steps.Changes c (DictCell (slice_set qs i (p.0, z))) NoneObject (refs_of y ++ refs_of p.1)) q)
    entry_by v y z b i None None n = both_wrong None steps.Wrong
    entry_by v y z b i None (Some q) n = absurd n
    entry_by v y z b i (Some p) None n = absurd n
    entry_by v y z b i (Some p) (Some q) n =
        both_change d c _ _ NoneObject (refs_of y ++ refs_of q.1) (becomes (slice_set ps i (p.0, v)) (slice_set qs i (q.0, z)) (pairs_set ps qs i (p.0, v) (q.0, z) m n.0 b))

    entry_row : (u v : Value) (y z : Word) → Boxed s u y → Boxed s v z → (i : Option ℕ) → A None (program.entry_set d i ps u v w) (steps.entry_set c i qs y z)
    entry_row u v y z a b None =
        both_change d c _ _ NoneObject [] (becomes (ps ++ (u, v) ∷ []) (qs ++ (y, z) ∷ []) (pairs_append ps ((u, v) ∷ []) qs ((y, z) ∷ []) m (a, b, tt)))
    entry_row u v y z a b (Some i) = entry_by v y z b i (slice_get ps i) (slice_get qs i) (pairs_at ps qs m i)

    put_pair_row : (u v : Value) (y z : Word) (a b : machines.Argument) (k : Key) → Boxed s u y → key_of_value u ≡ Some k → key_as a ≡ Some k → word_in ObjectKind a ≡ Some y → Boxed s v z → word_in ObjectKind b ≡ Some z → A None (program.of_dict (λ pairs. program.of_key (λ j. program.entry_set d (place_of_key j pairs) pairs u v w) (key_of_value u)) (slice_get w.store d)) (steps.of_key (λ j. steps.of_word (λ key. steps.of_word (steps.entry_set c (key_place s.cells j qs) qs key) (word_in ObjectKind b)) (word_in ObjectKind a)) (key_as a))
    put_pair_row u v y z a b k first e f is second it =
        pairs_found None (λ pairs. program.of_key (λ j. program.entry_set d (place_of_key j pairs) pairs u v w) (key_of_value u)) _
        (with_key None (λ j. program.entry_set d (place_of_key j ps) ps u v w) (λ j. steps.of_word (λ key. steps.of_word (steps.entry_set c (key_place s.cells j qs) qs key) (word_in ObjectKind b)) (word_in ObjectKind a)) u a k e f
        (given None (program.entry_set d (place_of_key k ps) ps u v w) (λ key. steps.of_word (steps.entry_set c (key_place s.cells k qs) qs key) (word_in ObjectKind b)) a y is
        (given None (program.entry_set d (place_of_key k ps) ps u v w) (steps.entry_set c (key_place s.cells k qs) qs y) b z it
        (subst (λ i. A None (program.entry_set d (place_of_key k ps) ps u v w) (steps.entry_set c i qs y z)) (sym (same_key_place k ps qs m)) (entry_row u v y z first second (place_of_key k ps))))))

    -- the pair of a key is taken out
    cut_by : (i : ℕ) (o : Option (Value × Value)) (q : Option (Word × Word)) → BothPaired o q → A (Some BoolType) (program.of_pair (λ p. Gives (BoolVal true) (with_object d (DictObj (take i ps ++ drop (i + 1) ps)) w)) o) (steps.of_pair (λ p. steps.Changes c (DictCell (take i qs ++ drop (i + 1) qs)) (CharWord 1) (refs_of p.0 ++ refs_of p.1)) q)
    cut_by i None None n = both_wrong (Some BoolType) steps.Wrong
    cut_by i None (Some q) n = absurd n
    cut_by i (Some p) None n = absurd n
    cut_by i (Some p) (Some q) n =
        both_change_answering BoolType (BoolVal true) d c _ _ (CharWord 1) (refs_of q.0 ++ refs_of q.1) (becomes (take i ps ++ drop (i + 1) ps) (take i qs ++ drop (i + 1) qs) (pairs_append (take i ps) (drop (i + 1) ps) (take i qs) (drop (i + 1) qs) (pairs_take ps qs i m) (pairs_drop ps qs (i + 1) m))) (char_fits s true)

    cut_row : (k : Key) (i : Option ℕ) → A (Some BoolType) (program.entry_cut d k i ps w) (steps.entry_cut c k i qs)
    cut_row k None = both_fail (Some BoolType) _ _ (fails_as BoolType _ char_error)
    cut_row k (Some i) = cut_by i (slice_get ps i) (slice_get qs i) (pairs_at ps qs m i)

    cut_pair_row : (v : Value) (a : machines.Argument) (k : Key) → key_of_value v ≡ Some k → key_as a ≡ Some k → A (Some BoolType) (program.of_dict (λ pairs. program.of_key (λ j. program.entry_cut d j (place_of_key j pairs) pairs w) (key_of_value v)) (slice_get w.store d)) (steps.of_key (λ j. steps.entry_cut c j (key_place s.cells j qs) qs) (key_as a))
    cut_pair_row v a k e f =
        pairs_found (Some BoolType) (λ pairs. program.of_key (λ j. program.entry_cut d j (place_of_key j pairs) pairs w) (key_of_value v)) _
        (with_key (Some BoolType) (λ j. program.entry_cut d j (place_of_key j ps) ps w) (λ j. steps.entry_cut c j (key_place s.cells j qs) qs) v a k e f
        (subst (λ z. A (Some BoolType) (program.entry_cut d k (place_of_key k ps) ps w) (steps.entry_cut c k z qs)) (sym (same_key_place k ps qs m)) (cut_row k (place_of_key k ps))))

    -- a key is looked for
    contains_row : (v : Value) (a : machines.Argument) (k : Key) → key_of_value v ≡ Some k → key_as a ≡ Some k → A (Some BoolType) (program.of_dict (λ pairs. program.of_key (λ j. Gives (BoolVal (is_some (place_of_key j pairs))) w) (key_of_value v)) (slice_get w.store d)) (steps.of_key (λ j. steps.Says (truth_word (is_some (key_place s.cells j qs)))) (key_as a))
    contains_row v a k e f =
        pairs_found (Some BoolType) (λ pairs. program.of_key (λ j. Gives (BoolVal (is_some (place_of_key j pairs))) w) (key_of_value v)) _
        (with_key (Some BoolType) (λ j. Gives (BoolVal (is_some (place_of_key j ps))) w) (λ j. steps.Says (truth_word (is_some (key_place s.cells j qs)))) v a k e f
        (subst (λ z. A (Some BoolType) (Gives (BoolVal (is_some (place_of_key k ps))) w) (steps.Says (truth_word (is_some z)))) (sym (same_key_place k ps qs m)) (says_truth (is_some (place_of_key k ps)))))

    -- how many pairs there are, and the key at a place
    check_row : (n : ℤ) → A (Some BoolType) (program.of_dict (λ pairs. program.sized (int_eq (pos (counted_length (length pairs))) n) w) (slice_get w.store d)) (steps.sized (int_eq (pos (counted_length (length qs))) n))
    check_row n =
        pairs_found (Some BoolType) (λ pairs. program.sized (int_eq (pos (counted_length (length pairs))) n) w) _
        (subst (λ z. A (Some BoolType) (program.sized (int_eq (pos (counted_length z)) n) w) (steps.sized (int_eq (pos (counted_length (length qs))) n))) (sym (pairs_size ps qs m)) (sized_row (int_eq (pos (counted_length (length qs))) n)))

    pairs_row : A (Some Int) (program.of_dict (λ pairs. Gives (IntVal (pos (counted_length (length pairs)))) w) (slice_get w.store d)) (steps.tagged_effect (pos (counted_length (length qs))))
    pairs_row =
        pairs_found (Some Int) (λ pairs. Gives (IntVal (pos (counted_length (length pairs)))) w) _
        (subst (λ n. A (Some Int) (Gives (IntVal (pos (counted_length n))) w) (steps.tagged_effect (pos (counted_length (length qs))))) (sym (pairs_size ps qs m)) (int_row (pos (counted_length (length qs)))))

    key_by : (o : Option (Value × Value)) (q : Option (Word × Word)) → BothPaired o q → A (Some Ref) (program.of_pair (λ p. Gives p.0 w) o) (steps.of_pair (λ p. steps.Shares p.0) q)
    key_by None None n = both_wrong (Some Ref) steps.Wrong
    key_by None (Some q) n = absurd n
    key_by (Some p) None n = absurd n
    key_by (Some p) (Some q) n = both_share Ref p.0 q.0 (boxed p.0 q.0 n.0)

    key_at_row : (i : ℤ) → A (Some Ref) (program.key_at ps i w) (steps.key_at qs i)
    key_at_row (pos i) = key_by (slice_get ps i) (slice_get qs i) (pairs_at ps qs m i)
    key_at_row (negsuc i) = both_wrong (Some Ref) steps.Wrong

    key_row : (i : ℤ) → A (Some Ref) (program.of_dict (λ pairs. program.key_at pairs i w) (slice_get w.store d)) (steps.key_at qs i)
    key_row i = pairs_found (Some Ref) (λ pairs. program.key_at pairs i w) _ (key_at_row i)

  -- ---- instances
  abbrev class_here : List CClass → List ℕ → Option ℕ
  class_here ks name = position (λ k. bytes_eq name k.name) ks

  made_row : (n : Option ℕ) → A (Some Ref) (program.instance_of n (option_and_then (slice_get p.classes) n) w) (steps.instance_of n (option_and_then (slice_get p.classes) n))
  made_row None = both_wrong (Some Ref) steps.Wrong
  made_row (Some n) = by (slice_get p.classes n) refl
    where
      by : (k : Option CClass) → slice_get p.classes n ≡ k → A (Some Ref) (program.instance_of (Some n) k w) (steps.instance_of (Some n) k)
      by None is = both_wrong (Some Ref) steps.Wrong
      by (Some k) is =
          both_make_object (InstObj n (map (λ a. None) k.attrs)) (InstCell n (map (λ a. None) k.attrs)) refl (refl, subst (λ o. AttributesFit s o (map (λ a. None) k.attrs) (map (λ a. None) k.attrs)) (sym is) (none_set s k.attrs))

  instance_row : (name : List ℕ) → A (Some Ref) (program.effect p (prim.Instance instance.New) (program.Written (arg.Class name) ∷ []) w) (steps.effect code s (prim.Instance instance.New) (machines.Written (c_arg.Class name) ∷ []))
  instance_row name =
      subst (λ z. A (Some Ref) (program.instance_of (class_here p.classes name) (option_and_then (slice_get p.classes) (class_here p.classes name)) w) (steps.instance_of (class_here z name) (option_and_then (slice_get z) (class_here z name)))) (sym classes)
      (made_row (class_here p.classes name))

  -- ---- the rows
  abbrev pub Row : Primitive → Type 0
  Row q =
      (vs : List Argument) (ys : List machines.Argument) → AllMeet w s code (row_of q).parameters vs ys → A (answer_of (row_of q).outcome) (program.effect p q vs w) (steps.effect code s q ys)

  pub agree : (q : Primitive) → stands_elsewhere q ≡ false → Row q
  agree (prim.Int64 int64.Add) g vs ys (one_more (is_native m) (one_more (is_native n) no_more)) =
      says_native (i64_add m n)
  agree (prim.Int64 int64.Subtract) g vs ys (one_more (is_native m) (one_more (is_native n) no_more)) =
      says_native (i64_sub m n)
  agree (prim.Int64 int64.Multiply) g vs ys (one_more (is_native m) (one_more (is_native n) no_more)) =
      says_native (i64_mul m n)
  agree (prim.Int64 int64.Negate) g vs ys (one_more (is_native n) no_more) =
      says_native (i64_neg n)
  agree (prim.Int64 int64.FloorDivide) g vs ys (one_more (is_native m) (one_more (is_native n) no_more)) =
      native_row (i64_floor_div m n)
  agree (prim.Int64 int64.Remainder) g vs ys (one_more (is_native m) (one_more (is_native n) no_more)) =
      native_row (i64_modulo m n)
  agree (prim.Int64 int64.Lshift) g vs ys (one_more (is_native m) (one_more (is_native n) no_more)) =
      native_row (i64_shl m n)
  agree (prim.Int64 int64.Rshift) g vs ys (one_more (is_native m) (one_more (is_native n) no_more)) =
      native_row (i64_shr m n)
  agree (prim.Int64 int64.FromBool) g vs ys (one_more (is_truth true) no_more) =
      says_native (pos 1)
  agree (prim.Int64 int64.FromBool) g vs ys (one_more (is_truth false) no_more) =
      says_native (pos 0)
  agree (prim.Int64 int64.Eq) g vs ys (one_more (is_native m) (one_more (is_native n) no_more)) =
      says_truth (int_eq m n)
  agree (prim.Int64 int64.Lt) g vs ys (one_more (is_native m) (one_more (is_native n) no_more)) =
      says_truth (int_lt m n)
  agree (prim.Int64 int64.Le) g vs ys (one_more (is_native m) (one_more (is_native n) no_more)) =
      says_truth (not (int_lt n m))
  agree (prim.Int64 int64.Str) g vs ys (one_more (is_native n) no_more) =
      makes_text (signed_decimal n)
  agree (prim.Int64 int64.Box) g vs ys (one_more (is_native n) no_more) =
      makes_number n
  agree (prim.Int64 int64.Unbox) g vs ys (one_more (is_box n c live) no_more) =
      native_in_row (int_to_i64 n)
  agree (prim.Tagged tagged.Add) g vs ys (one_more (is_number m a e) (one_more (is_number n b f) no_more)) =
      two_ints (Some Int) _ (λ m n. steps.tagged_or (int_add m n)) a b m n e f (ints_row (int_add m n))
  agree (prim.Tagged tagged.Subtract) g vs ys (one_more (is_number m a e) (one_more (is_number n b f) no_more)) =
      two_ints (Some Int) _ (λ m n. steps.tagged_or (int_sub m n)) a b m n e f (ints_row (int_sub m n))
  agree (prim.Tagged tagged.Multiply) g vs ys (one_more (is_number m a e) (one_more (is_number n b f) no_more)) =
      two_ints (Some Int) _ (λ m n. steps.tagged_or (int_mul m n)) a b m n e f (ints_row (int_mul m n))
  agree (prim.Tagged tagged.FloorDivide) g vs ys (one_more (is_number m a e) (one_more (is_number n b f) no_more)) =
      two_ints (Some Int) _ (λ m n. steps.tagged_or (int_floor_div m n)) a b m n e f (ints_row (int_floor_div m n))
  agree (prim.Tagged tagged.Remainder) g vs ys (one_more (is_number m a e) (one_more (is_number n b f) no_more)) =
      two_ints (Some Int) _ (λ m n. steps.tagged_or (int_modulo m n)) a b m n e f (ints_row (int_modulo m n))
  agree (prim.Tagged tagged.Lshift) g vs ys (one_more (is_number m a e) (one_more (is_number n b f) no_more)) =
      two_ints (Some Int) _ (λ m n. steps.tagged_or (int_shl m n)) a b m n e f (ints_row (int_shl m n))
  agree (prim.Tagged tagged.Rshift) g vs ys (one_more (is_number m a e) (one_more (is_number n b f) no_more)) =
      two_ints (Some Int) _ (λ m n. steps.tagged_or (int_shr m n)) a b m n e f (ints_row (int_shr m n))
  agree (prim.Tagged tagged.Negate) g vs ys (one_more (is_number n a e) no_more) =
      one_int (Some Int) _ (λ n. steps.tagged_or (int_neg n)) a n e (ints_row (int_neg n))
  agree (prim.Tagged tagged.FromText) g vs ys (one_more (writes_decimal t) no_more) =
      written_row t (signed_digits_value 10 t)
  agree (prim.Tagged tagged.FromInt64) g vs ys (one_more (is_native n) no_more) =
      int_row n
  agree (prim.Tagged tagged.FromBool) g vs ys (one_more (is_truth true) no_more) =
      int_row (pos 1)
  agree (prim.Tagged tagged.FromBool) g vs ys (one_more (is_truth false) no_more) =
      int_row (pos 0)
  agree (prim.Tagged tagged.AsInt64) g vs ys (one_more (is_number n a e) no_more) =
      one_int (Some I64) _ (λ n. steps.fitted (int_to_i64 n)) a n e (fitted_row (int_to_i64 n))
  agree (prim.Tagged tagged.Eq) g vs ys (one_more (is_number m a e) (one_more (is_number n b f) no_more)) =
      two_ints (Some BoolType) _ (λ m n. steps.Says (truth_word (int_eq m n))) a b m n e f (says_truth (int_eq m n))
  agree (prim.Tagged tagged.Lt) g vs ys (one_more (is_number m a e) (one_more (is_number n b f) no_more)) =
      two_ints (Some BoolType) _ (λ m n. steps.Says (truth_word (int_lt m n))) a b m n e f (says_truth (int_lt m n))
  agree (prim.Tagged tagged.Le) g vs ys (one_more (is_number m a e) (one_more (is_number n b f) no_more)) =
      two_ints (Some BoolType) _ (λ m n. steps.Says (truth_word (not (int_lt n m)))) a b m n e f (says_truth (not (int_lt n m)))
  agree (prim.Tagged tagged.Str) g vs ys (one_more (is_number n a e) no_more) =
      one_int (Some Ref) _ (λ n. steps.Makes (StrCell (signed_decimal n))) a n e (makes_text (signed_decimal n))
  agree (prim.Tagged tagged.Box) g vs ys (one_more (owns_short n) no_more) =
      makes_number n
  agree (prim.Tagged tagged.Box) g vs ys (one_more (owns_big n c live) no_more) =
      both_share Ref (IntVal n) (ObjectCell c) (boxed (IntVal n) (ObjectCell c) (c, refl, live))
  agree (prim.Tagged tagged.Unbox) g vs ys (one_more (is_box n c live) no_more) =
      unboxed_row n c live
  agree (prim.Bool bool.Not) g vs ys (one_more (is_truth true) no_more) =
      says_truth false
  agree (prim.Bool bool.Not) g vs ys (one_more (is_truth false) no_more) =
      says_truth true
  agree (prim.Bool bool.Str) g vs ys (one_more (is_truth true) no_more) =
      makes_text (program.truth_text true)
  agree (prim.Bool bool.Str) g vs ys (one_more (is_truth false) no_more) =
      makes_text (program.truth_text false)
  agree (prim.Bool bool.Box) g vs ys (one_more (is_truth true) no_more) =
      both_say Ref (BoolVal true) TrueObject (boxed (BoolVal true) TrueObject refl)
  agree (prim.Bool bool.Box) g vs ys (one_more (is_truth false) no_more) =
      both_say Ref (BoolVal false) FalseObject (boxed (BoolVal false) FalseObject refl)
  agree (prim.Bool bool.Unbox) g vs ys (one_more (is_any v y a m r) no_more) =
      unbox_row v y a m r
  agree (prim.Object object.IsNone) g vs ys (one_more (is_any v y a m r) no_more) =
      none_row v y a m r
  agree (prim.Str str.Literal) g vs ys (one_more (writes_text t) no_more) =
      makes_text t
  agree (prim.Str str.Concat) g vs ys (one_more (is_text t c) (one_more (is_text u d) no_more)) =
      makes_text (t ++ u)
  agree (prim.Str str.Eq) g vs ys (one_more (is_text t c) (one_more (is_text u d) no_more)) =
      says_truth (bytes_eq t u)
  agree (prim.Str str.Lt) g vs ys (one_more (is_text t c) (one_more (is_text u d) no_more)) =
      says_truth (text_less t u)
  agree (prim.Str str.Le) g vs ys (one_more (is_text t c) (one_more (is_text u d) no_more)) =
      says_truth (not (text_less u t))
  agree (prim.Str str.Len) g vs ys (one_more (is_text t c) no_more) =
      int_row (text_length t)
  agree (prim.Str str.GetItem) g vs ys (one_more (is_text t c) (one_more (is_number n a e) no_more)) =
      one_int (Some Ref) _ (λ i. steps.item_or (text_item t i)) a n e (item_row (text_item t n))
  agree (prim.List list.New) g vs ys no_more =
      both_make_object (ListObj []) (ListCell []) refl tt
  agree (prim.List list.Append) g vs ys (one_more (is_list k c us zs there made live m) (one_more (owns_any v y a b e) no_more)) =
      append_row k c us zs there made live m v y a b e
  agree (prim.List list.GetItem) g vs ys (one_more (is_list k c us zs there made live m) (one_more (is_number n a e) no_more)) =
      one_int (Some Ref) _ (λ i. steps.item_at (place_of (length zs) i) zs) a n e (get_row k c us zs there made live m n)
  agree (prim.List list.GetItemBorrow) g vs ys (one_more (is_list k c us zs there made live m) (one_more (is_number n a e) no_more)) =
      one_int (Some Ref) _ (λ i. steps.lent (steps.item_at (place_of (length zs) i) zs)) a n e (get_lent_row k c us zs there made live m n)
  agree (prim.List list.SetItem) g vs ys (one_more (is_list k c us zs there made live m) (one_more (is_number n a e) (one_more (owns_any v y x b f) no_more))) =
      one_int (Some BoolType) _ (λ i. steps.of_word (steps.put_at c (place_of (length zs) i) zs) (word_in ObjectKind x)) a n e (set_row k c us zs there made live m n v y x b f)
  agree (prim.List list.Pop) g vs ys (one_more (is_list k c us zs there made live m) no_more) =
      pop_row k c us zs there made live m
  agree (prim.List list.Len) g vs ys (one_more (is_list k c us zs there made live m) no_more) =
      size_row k c us zs there made live m
  agree (prim.Dict dict.New) g vs ys no_more =
      both_make_object (DictObj []) (DictCell []) refl tt
  agree (prim.Dict dict.GetItem) g vs ys (one_more (is_dict d c ps qs there made live m) (one_more (is_a_key v y a k b e f) no_more)) =
      read_row d c ps qs there made live m v a k e f
  agree (prim.Dict dict.SetItem) g vs ys (one_more (is_dict d c ps qs there made live m) (one_more (owns_key u y a k b e f is) (one_more (owns_any v z x n it) no_more))) =
      put_pair_row d c ps qs there made live m u v y z a x k b e f is n it
  agree (prim.Dict dict.DelItem) g vs ys (one_more (is_dict d c ps qs there made live m) (one_more (is_a_key v y a k b e f) no_more)) =
      cut_pair_row d c ps qs there made live m v a k e f
  agree (prim.Dict dict.Contains) g vs ys (one_more (is_dict d c ps qs there made live m) (one_more (is_a_key v y a k b e f) no_more)) =
      contains_row d c ps qs there made live m v a k e f
  agree (prim.Dict dict.CheckSize) g vs ys (one_more (is_dict d c ps qs there made live m) (one_more (is_number n a e) no_more)) =
      one_int (Some BoolType) _ (λ i. steps.sized (int_eq (pos (counted_length (length qs))) i)) a n e (check_row d c ps qs there made live m n)
  agree (prim.Dict dict.KeyAt) g vs ys (one_more (is_dict d c ps qs there made live m) (one_more (is_number n a e) no_more)) =
      one_int (Some Ref) _ (steps.key_at qs) a n e (key_row d c ps qs there made live m n)
  agree (prim.Dict dict.Len) g vs ys (one_more (is_dict d c ps qs there made live m) no_more) =
      pairs_row d c ps qs there made live m
  agree (prim.Tuple tuple.Pack) g vs ys (one_more {vs = us} {ys = zs} (owns_any v y a b e) rest) =
      packed_row _ _ (one_packed v y a us zs b e (may_pack 15 us zs rest))
  agree (prim.Tuple tuple.GetItem) g vs ys (one_more (is_tuple parts c zs m) (one_more (writes_number n) no_more)) =
      part_row parts zs m n
  agree (prim.Tuple tuple.GetItemBorrow) g vs ys (one_more (is_tuple parts c zs m) (one_more (writes_number n) no_more)) =
      lent_part_row parts zs m n
  agree (prim.Tuple tuple.Len) g vs ys (one_more (is_tuple parts c zs m) no_more) =
      counted_row (listed parts) zs (all_parts parts zs m)
  agree (prim.Exc exc.New) g vs ys (one_more (writes_exception name) (one_more (is_text t c) no_more)) =
      exception_row (class_named name) t
  agree (prim.Exc exc.Str) g vs ys (one_more (is_exception x c) no_more) =
      makes_text x.text
  agree (prim.Err err.SetObject) g vs ys (one_more (is_stolen x c live) no_more) =
      both_pend x c live
  agree (prim.Err err.Unbound) g vs ys (one_more (writes_text t) no_more) =
      both_fail None (steps.unbound t) NoObject (λ u is. absurd (cc))
  agree (prim.Err err.Occurred) g vs ys no_more =
      occurred_row w.pending s.pending world.pending
  agree (prim.Err err.Matches) g vs ys (one_more (writes_exception name) no_more) =
      subst (λ z. A (Some BoolType) (program.matched (class_named name) w.pending w) (steps.matched (class_named name) z)) (sym (same_exception w.pending s.pending world.pending)) (matched_row (class_named name) w.pending)
  agree (prim.Err err.Catch) g vs ys no_more =
      caught_row w.pending s.pending world.pending
  agree (prim.Io io.Write) g vs ys (one_more (is_text t c) no_more) =
      both_write t
  agree (prim.Io io.Input) g vs ys no_more =
      subst (λ z. A (Some Ref) (program.line_read w.items w) (steps.line_read z)) (sym world.items) (line_row w.items)
  agree (prim.Global q) g vs ys h = absurd (cc)
  agree (prim.Instance instance.New) g vs ys (one_more (writes_class name) no_more) =
      instance_row name
  agree (prim.Attr q) g vs ys h = absurd (cc)
