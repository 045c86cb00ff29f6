-- What operators and builtins do is alike to itself.
use Rattle.std.proofs.Common.{ℕ, zero, suc, ℤ, pos, negsuc, Bool, true, false, List, [], ◌∷◌, ◌++◌, length, map, Option, Some, None, Result, Ok, Err, refl, nat_lt, slice_get, if◌then◌else◌}
use Rattle.value_core.specs.declared.arith.Arith.{Arith}
use Rattle.value_core.specs.declared.arith.Arith.TheVariants.{Overflow, ZeroDivisor, NegativeShift, OutOfRange}
use Rattle.value_core.specs.Arithmetic.{int_to_i64}
use Rattle.value_core.specs.Characters.{place_of}
use Rattle.value_core.specs.Value.{Value, IntVal, BoolVal, NoneVal, StrVal, TupleVal, ExcVal, ObjVal, listed, Object, ListObj, DictObj, InstObj}
use Rattle.py_syntax.specs.declared.expression.BinOp.{BinOp}
use Rattle.py_syntax.specs.declared.expression.BinOp.TheVariants.{Add, Sub, Mul, FloorDiv, Mod, Shl, Shr, Bar}
use Rattle.py_syntax.specs.declared.expression.CmpOp.{CmpOp}
use Rattle.py_syntax.specs.declared.expression.CmpOp.TheVariants as compare
use Rattle.py_typed.specs.Sorts.{Sort, Int, I64, Bool as BoolSort, Str, ListOf, DictOf, Optional}
use Rattle.source_meaning.specs.State.{Stuck, Does, sure, needs, set_local, set_global}
use Rattle.source_meaning.specs.Operations.{raise_fault, number_of, of_int, of_i64, of_numbers, with_number, fitting, coerced, arithmetic, negated_as, negated, joined, combined, with_object, as_list, as_dict, as_instance, with_list, with_dict, with_instance, with_place, at_place, list_item, append_item, pop_item, letter, letters, tuple_part, key_place, has_text, are_alike, at_key, dict_item, delete_entry, truth_of_object, truth_of, length_of_object, length_of, item_at, set_item, compared, compared_as, found, holds}
use Rattle.py_typed.specs.TargetTypes.{key_sort}
use Rattle.source_meaning.proofs.Closed.{Closed}

module _ {R : ℕ → (A : Type 0) → Does A → Does A → Type 0} {Allowed : ℕ → ℕ → ℕ → Type 0} (k : Closed R Allowed) (t : ℕ) where
  pub either : {A : Type 0} {d e f g : Does A} (b : Bool) → R t _ d e → R t _ f g → R t _ (if b then d else f) (if b then e else g)
  either true p q = p
  either false p q = q

  pub sures : {A : Type 0} (o : Option A) → R t _ (sure o) (sure o)
  sures None = k.stops t Stuck
  sures (Some a) = k.gives t a

  pub needed : {A : Type 0} {d e : Does A} (b : Bool) → R t _ d e → R t _ (needs b d) (needs b e)
  needed b p = either b p (k.stops t Stuck)

  pub sets_local : (i : ℕ) (v : Option Value) → R t _ (set_local i v) (set_local i v)
  sets_local i v = k.looks t (λ s. nat_lt i (length s.locals)) (λ s n. refl) (λ b. needed b (k.puts_local t i v))

  pub sets_global : (i : ℕ) (v : Option Value) → R t _ (set_global i v) (set_global i v)
  sets_global i v = k.looks t (λ s. nat_lt i (length s.globals)) (λ s n. refl) (λ b. needed b (k.puts_global t i v))

  faults : {A : Type 0} (past : List ℕ) (fault : Arith) → R t A (raise_fault past fault) (raise_fault past fault)
  faults past Overflow = k.raises t _
  faults past ZeroDivisor = k.raises t _
  faults past NegativeShift = k.raises t _
  faults past OutOfRange = k.raises t _

  results : (past : List ℕ) (r : Result ℤ Arith) → R t _ (number_of past r) (number_of past r)
  results past (Ok n) = k.gives t _
  results past (Err fault) = faults past fault

  ints : (op : BinOp) (a b : ℤ) → R t _ (of_int op a b) (of_int op a b)
  ints Add a b = results _ _
  ints Sub a b = results _ _
  ints Mul a b = results _ _
  ints FloorDiv a b = results _ _
  ints Mod a b = results _ _
  ints Shl a b = results _ _
  ints Shr a b = results _ _
  ints Bar a b = k.stops t Stuck

  i64s : (op : BinOp) (a b : ℤ) → R t _ (of_i64 op a b) (of_i64 op a b)
  i64s Add a b = k.gives t _
  i64s Sub a b = k.gives t _
  i64s Mul a b = k.gives t _
  i64s FloorDiv a b = results _ _
  i64s Mod a b = results _ _
  i64s Shl a b = results _ _
  i64s Shr a b = results _ _
  i64s Bar a b = k.stops t Stuck

  numbers : (s : Sort) (op : BinOp) (a b : ℤ) → R t _ (of_numbers s op a b) (of_numbers s op a b)
  numbers Int op a b = ints op a b
  numbers I64 op a b = i64s op a b
  numbers BoolSort op a b = k.stops t Stuck
  numbers _ op a b = k.stops t Stuck

  pub with_numbers : {A : Type 0} (v : Value) {f g : ℤ → Does A} → ((n : ℤ) → R t _ (f n) (g n)) → R t _ (with_number v f) (with_number v g)
  with_numbers (IntVal n) h = h n
  with_numbers (BoolVal b) h = k.stops t Stuck
  with_numbers _ h = k.stops t Stuck

  fittings : (r : Result ℤ Arith) → R t _ (fitting r) (fitting r)
  fittings (Ok n) = k.gives t _
  fittings (Err fault) = k.raises t _

  pub coercions : (s : Sort) (v : Value) → R t _ (coerced s v) (coerced s v)
  coercions Int (BoolVal b) = k.gives t _
  coercions I64 (BoolVal b) = k.gives t _
  coercions I64 (IntVal n) = fittings (int_to_i64 n)
  coercions (Optional s) v = coercions s v
  coercions _ v = k.gives t v

  pub arithmetics : (s : Sort) (op : BinOp) (x y : Value) → R t _ (arithmetic s op x y) (arithmetic s op x y)
  arithmetics s op x y = k.binds t (coercions s x) (λ a. k.binds t (coercions s y) (λ b. with_numbers a (λ m. with_numbers b (λ n. numbers s op m n))))

  negations : (s : Sort) (n : ℤ) → R t _ (negated_as s n) (negated_as s n)
  negations Int n = results _ _
  negations I64 n = k.gives t _
  negations BoolSort n = k.stops t Stuck
  negations _ n = k.stops t Stuck

  pub negates : (s : Sort) (x : Value) → R t _ (negated s x) (negated s x)
  negates s x = k.binds t (coercions s x) (λ a. with_numbers a (negations s))

  pub joins : (x y : Value) → R t _ (joined x y) (joined x y)
  joins (StrVal a) (StrVal b) = k.gives t _
  joins _ _ = k.stops t Stuck

  pub combines : (s : Sort) (op : BinOp) (x y : Value) → R t _ (combined s op x y) (combined s op x y)
  combines Str Add x y = joins x y
  combines s op x y = arithmetics s op x y

  -- ---- objects

  lists_at : {A : Type 0} (j : ℕ) {f g : ℕ → List Value → Does A} → ((j : ℕ) (vs : List Value) → R t _ (f j vs) (g j vs)) → (o : Option Object) → R t _ (as_list f j o) (as_list g j o)
  lists_at j h (Some (ListObj vs)) = h j vs
  lists_at j h (Some (DictObj ps)) = k.stops t Stuck
  lists_at j h (Some (InstObj c vs)) = k.stops t Stuck
  lists_at j h None = k.stops t Stuck

  dicts_at : {A : Type 0} (j : ℕ) {f g : ℕ → List (Value × Value) → Does A} → ((j : ℕ) (ps : List (Value × Value)) → R t _ (f j ps) (g j ps)) → (o : Option Object) → R t _ (as_dict f j o) (as_dict g j o)
  dicts_at j h (Some (ListObj vs)) = k.stops t Stuck
  dicts_at j h (Some (DictObj ps)) = h j ps
  dicts_at j h (Some (InstObj c vs)) = k.stops t Stuck
  dicts_at j h None = k.stops t Stuck

  instances_at : {A : Type 0} (j : ℕ) {f g : ℕ → ℕ → List (Option Value) → Does A} → ((j c : ℕ) (vs : List (Option Value)) → R t _ (f j c vs) (g j c vs)) → (o : Option Object) → R t _ (as_instance f j o) (as_instance g j o)
  instances_at j h (Some (ListObj vs)) = k.stops t Stuck
  instances_at j h (Some (DictObj ps)) = k.stops t Stuck
  instances_at j h (Some (InstObj c vs)) = h j c vs
  instances_at j h None = k.stops t Stuck

  objects : {A : Type 0} (v : Value) {f g : ℕ → Option Object → Does A} → ((j : ℕ) (o : Option Object) → R t _ (f j o) (g j o)) → R t _ (with_object v f) (with_object v g)
  objects (ObjVal j) h = k.looks t (λ s. slice_get s.store j) (λ s n. refl) (h j)
  objects (IntVal n) h = k.stops t Stuck
  objects _ h = k.stops t Stuck

  pub lists : {A : Type 0} (v : Value) {f g : ℕ → List Value → Does A} → ((j : ℕ) (vs : List Value) → R t _ (f j vs) (g j vs)) → R t _ (with_list v f) (with_list v g)
  lists v h = objects v (λ j o. lists_at j h o)

  pub dicts : {A : Type 0} (v : Value) {f g : ℕ → List (Value × Value) → Does A} → ((j : ℕ) (ps : List (Value × Value)) → R t _ (f j ps) (g j ps)) → R t _ (with_dict v f) (with_dict v g)
  dicts v h = objects v (λ j o. dicts_at j h o)

  pub instances : {A : Type 0} (v : Value) {f g : ℕ → ℕ → List (Option Value) → Does A} → ((j c : ℕ) (vs : List (Option Value)) → R t _ (f j c vs) (g j c vs)) → R t _ (with_instance v f) (with_instance v g)
  instances v h = objects v (λ j o. instances_at j h o)

  -- ---- items

  placed : {A : Type 0} {d e : Does A} {f g : ℕ → Does A} → R t _ d e → ((j : ℕ) → R t _ (f j) (g j)) → (o : Option ℕ) → R t _ (with_place d f o) (with_place e g o)
  placed p h None = p
  placed p h (Some j) = h j

  places : {A : Type 0} (text : List ℕ) (n : ℕ) (i : Value) {f g : ℕ → Does A} → ((j : ℕ) → R t _ (f j) (g j)) → R t _ (at_place text n i f) (at_place text n i g)
  places text n (IntVal i) h = placed (k.raises t _) h (place_of n i)
  places text n (BoolVal b) h = k.stops t Stuck
  places text n _ h = k.stops t Stuck

  list_items : (l i : Value) → R t _ (list_item l i) (list_item l i)
  list_items l i = lists l (λ j vs. places _ (length vs) i (λ m. sures (slice_get vs m)))

  letters_at : (x i : Value) → R t _ (letter x i) (letter x i)
  letters_at (StrVal text) i = places _ (length (letters text)) i (λ m. sures (slice_get (letters text) m))
  letters_at (IntVal n) i = k.stops t Stuck
  letters_at _ i = k.stops t Stuck

  keys : {A : Type 0} (key : Value) (ps : List (Value × Value)) {f g : ℕ → Does A} → ((j : ℕ) → R t _ (f j) (g j)) → R t _ (at_key key ps f) (at_key key ps g)
  keys key ps h = placed (needed (has_text key) (k.raises t _)) h (key_place key ps)

  dict_items : (d key : Value) → R t _ (dict_item d key) (dict_item d key)
  dict_items d key = dicts d (λ j ps. keys key ps (λ m. sures (slice_get (map (λ p. p.1) ps) m)))

  pub items_at : (s : Sort) (x i : Value) → R t _ (item_at s x i) (item_at s x i)
  items_at (ListOf s) x i = list_items x i
  items_at (DictOf r s) x i = dict_items x i
  items_at Str x i = letters_at x i
  items_at Int x i = k.stops t Stuck
  items_at _ x i = k.stops t Stuck

  pub sets_item : (s : Sort) (x i v : Value) → R t _ (set_item s x i v) (set_item s x i v)
  sets_item (ListOf s) x i v = lists x (λ j vs. places _ (length vs) i (λ m. k.puts t j _))
  sets_item (DictOf r s) x i v = dicts x (λ j ps. k.puts t j _)
  sets_item Int x i v = k.stops t Stuck
  sets_item _ x i v = k.stops t Stuck

  pub appends : (l v : Value) → R t _ (append_item l v) (append_item l v)
  appends l v = lists l (λ j vs. k.binds t (k.puts t j (ListObj (vs ++ v ∷ []))) (λ _. k.gives t NoneVal))

  pub pops : (l : Value) → R t _ (pop_item l) (pop_item l)
  pops l = lists l (λ j vs. places _ (length vs) (IntVal (negsuc 0)) (λ m. k.binds t (k.puts t j _) (λ _. sures (slice_get vs m))))

  pub deletes : (d key : Value) → R t _ (delete_entry d key) (delete_entry d key)
  deletes d key = dicts d (λ j ps. keys key ps (λ m. k.puts t j _))

  pub parts : (i : ℕ) (x : Value) → R t _ (tuple_part i x) (tuple_part i x)
  parts i (TupleVal vs) = sures (slice_get (listed vs) i)
  parts i (IntVal n) = k.stops t Stuck
  parts i _ = k.stops t Stuck

  -- ---- truth, lengths, comparisons

  object_truths : (o : Option Object) → R t _ (truth_of_object o) (truth_of_object o)
  object_truths (Some (ListObj vs)) = k.gives t _
  object_truths (Some (DictObj ps)) = k.gives t _
  object_truths (Some (InstObj c vs)) = k.gives t _
  object_truths None = k.stops t Stuck

  pub truths : (v : Value) → R t _ (truth_of v) (truth_of v)
  truths (IntVal (pos zero)) = k.gives t _
  truths (IntVal (pos (suc n))) = k.gives t _
  truths (IntVal (negsuc n)) = k.gives t _
  truths (BoolVal b) = k.gives t _
  truths NoneVal = k.gives t _
  truths (StrVal s) = k.gives t _
  truths (TupleVal vs) = k.gives t _
  truths (ExcVal e) = k.gives t _
  truths (ObjVal j) = k.looks t (λ s. slice_get s.store j) (λ s n. refl) object_truths

  object_lengths : (o : Option Object) → R t _ (length_of_object o) (length_of_object o)
  object_lengths (Some (ListObj vs)) = k.gives t _
  object_lengths (Some (DictObj ps)) = k.gives t _
  object_lengths (Some (InstObj c vs)) = k.stops t Stuck
  object_lengths None = k.stops t Stuck

  pub lengths : (v : Value) → R t _ (length_of v) (length_of v)
  lengths (StrVal s) = k.gives t _
  lengths (TupleVal vs) = k.gives t _
  lengths (ObjVal j) = k.looks t (λ s. slice_get s.store j) (λ s n. refl) object_lengths
  lengths (IntVal n) = k.stops t Stuck
  lengths _ = k.stops t Stuck

  comparisons : (test : Value → Value → Bool) (r s : Sort) (x y : Value) → R t _ (compared test r s x y) (compared test r s x y)
  comparisons test r s x y = k.binds t (coercions (compared_as r s) x) (λ a. k.binds t (coercions (compared_as r s) y) (λ b. needed (are_alike a b) (k.gives t _)))

  founds : (s : Sort) (x d : Value) → R t _ (found s x d) (found s x d)
  founds s x d = k.binds t (coercions (key_sort s) x) (λ key. dicts d (λ j ps. k.gives t _))

  pub relations : (op : CmpOp) (r s : Sort) (x y : Value) → R t _ (holds op r s x y) (holds op r s x y)
  relations compare.Eq r s x y = comparisons _ r s x y
  relations compare.Ne r s x y = comparisons _ r s x y
  relations compare.Lt r s x y = comparisons _ r s x y
  relations compare.Le r s x y = comparisons _ r s x y
  relations compare.Gt r s x y = comparisons _ r s x y
  relations compare.Ge r s x y = comparisons _ r s x y
  relations compare.Member r s x y = founds s x y
  relations compare.NotMember r s x y = k.binds t (founds s x y) (λ b. k.gives t _)
  relations compare.Is r s x y = k.gives t _
  relations compare.IsNot r s x y = k.gives t _
