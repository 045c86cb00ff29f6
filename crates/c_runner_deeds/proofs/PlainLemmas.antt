-- Deeds that answer no cell that is there: the cells in them are a heap's own, whatever the heap.
use Rattle.std.proofs.Common.{◌≡◌, refl, sym, subst, ℕ, zero, suc, Bool, true, false, cond, List, [], Option, Some, None}
use Rattle.std.specs.Prelude.{ℤ, pos, not, int_lt, Result, Ok, Err, IfOk, IfSome}
use Rattle.std.specs.Option.{option_map, option_and_then}
use Rattle.std.specs.Ordering.{int_eq}
use Rattle.std.specs.Str.{bytes_eq}
use Rattle.value_core.specs.declared.arith.Arith.{Arith}
use Rattle.value_core.specs.Arithmetic.{is_short, int_neg, int_to_i64, i64_neg, i64_floor_div, i64_modulo, i64_shl, i64_shr}
use Rattle.c_core.specs.declared.code.CArg.{CArg}
use Rattle.c_core.specs.declared.fault.Fault.{Fault}
use Rattle.c_core.specs.declared.primitive.TaggedPrim.{TaggedPrim}
use Rattle.c_core.specs.declared.primitive.TaggedPrim.TheVariants as tagged
use Rattle.c_core.specs.declared.primitive.Int64Prim.{Int64Prim}
use Rattle.c_core.specs.declared.primitive.Int64Prim.TheVariants as int64
use Rattle.c_core.specs.declared.primitive.BoolPrim.{BoolPrim}
use Rattle.c_core.specs.declared.primitive.BoolPrim.TheVariants as bool
use Rattle.c_core.specs.declared.primitive.ObjectPrim.{ObjectPrim}
use Rattle.c_core.specs.declared.primitive.ObjectPrim.TheVariants as object
use Rattle.c_core.specs.declared.primitive.StrPrim.{StrPrim}
use Rattle.c_core.specs.declared.primitive.StrPrim.TheVariants as str
use Rattle.c_core.specs.Cells.{Cells}
use Rattle.c_core.specs.Machine as machine
use Rattle.c_core.specs.Machine.{Word, TrueObject, FalseObject, Content, refs_of}
use Rattle.c_core.specs.Step.{Effect, Says, Shares, Lends, Fails, unboxed, truth_word, truth_object, tagged_effect, tagged_or, fitted, native_in, native_or, item_or}
use Rattle.c_core.specs.Strings.{text_less, text_length, text_item}
use Rattle.cell_heap.specs.declared.word.Word as heap
use Rattle.cell_heap.specs.declared.word.Word.TheVariants as words
use Rattle.cell_heap.specs.Contents as contents
use Rattle.cell_heap.specs.Placed.{Placed}
use Rattle.c_runner_deeds.specs.declared.deed.Deed.{Deed}
use Rattle.c_runner_deeds.specs.declared.deed.Deed.TheVariants as deed
use Rattle.c_runner_deeds.specs.Deeds.{effect_of, done_by, then_done, done_or, then_tried, number_written, one_int, two_ints, one_text, two_texts, text_and_int, one_object, one_boxed, one_done, computed, two_done, texts_done, str_done, box_done, unbox_done, truth_done, truth_in, bool_done, is_none_object, object_done, tagged_done, IsOurDeed}
use Rattle.c_runner_deeds.specs.Ours.{IsOurWord}
use Rattle.c_runner_deeds.specs.Parts as parts
use Rattle.c_runner_deeds.specs.Parts.{one_native, two_natives, one_char, only_text, two_effect, int64_effect}

-- an effect that refers to no cell that is there
abbrev pub IsPlain : Effect → Type 0
IsPlain (Says w) = refs_of w ≡ []
IsPlain (Fails w e) = refs_of w ≡ []
IsPlain (Shares w) = ⊥
IsPlain (Lends w) = ⊥
IsPlain e = Unit {0}

module _ (cells : Cells Placed) where
  pub plain_word : (w : heap.Word) → refs_of (contents.word_of w) ≡ [] → IsOurWord cells w
  plain_word (words.Big key) e = absurd (cc)
  plain_word (words.Cell key) e = absurd (cc)
  plain_word _ e = tt

  plain_deed : (d : Deed) → IsPlain (effect_of d) → IsOurDeed cells d
  plain_deed (deed.Says w) p = plain_word w p
  plain_deed (deed.Shares w) p = absurd p
  plain_deed (deed.Lends w) p = absurd p
  plain_deed (deed.MakesInt n) p = tt
  plain_deed (deed.MakesNumber n) p = tt
  plain_deed (deed.MakesText text) p = tt
  plain_deed (deed.Fails w class text) p = plain_word w p
  plain_deed deed.Wrong p = tt

  pub plain_effect : (d : Deed) (e : Effect) → effect_of d ≡ e → IsPlain e → IsOurDeed cells d
  plain_effect d e is p = plain_deed d (subst IsPlain (sym is) p)

  pub plain_done : (r : Result Deed Fault) (e : Result Effect Fault) → done_by r ≡ e → IfOk e IsPlain → IfOk r (IsOurDeed cells)
  plain_done (Ok d) e is p = plain_deed d (subst (λ o. IfOk o IsPlain) (sym is) p)
  plain_done (Err why) e is p = tt

-- ---- effects
plain_either : (b : Bool) (x y : Effect) → IsPlain x → IsPlain y → IsPlain (cond b x y)
plain_either true x y p q = p
plain_either false x y p q = q

pub plain_int : (n : ℤ) → IsPlain (tagged_effect n)
plain_int n = plain_either (is_short n) _ _ refl tt

pub plain_number : (r : Result ℤ Arith) → IsPlain (tagged_or r)
plain_number (Ok n) = plain_int n
plain_number (Err f) = refl

plain_fitted : (r : Result ℤ Arith) → IsPlain (fitted r)
plain_fitted (Ok n) = refl
plain_fitted (Err f) = refl

plain_native : (r : Result ℤ Arith) → IsPlain (native_in r)
plain_native (Ok n) = refl
plain_native (Err f) = tt

plain_item : (o : Option (List ℕ)) → IsPlain (item_or o)
plain_item None = refl
plain_item (Some text) = tt

pub plain_truth : (b : Bool) → IsPlain (Says (truth_word b))
plain_truth true = refl
plain_truth false = refl

plain_object : (n : ℕ) → IsPlain (Says (truth_object n))
plain_object zero = refl
plain_object (suc n) = refl

plain_in : (w : Word) → IsPlain (truth_in w)
plain_in TrueObject = refl
plain_in FalseObject = refl
plain_in _ = tt

-- ---- what is done with what was found
module _ {A : Type 0} where
  pub then_plain : (f : A → Effect) → ((a : A) → IsPlain (f a)) → (r : Result A Fault) → IfOk (then_done f r) IsPlain
  then_plain f p (Ok a) = p a
  then_plain f p (Err why) = tt

  pub or_plain : (f : A → Effect) → ((a : A) → IsPlain (f a)) → (o : Option A) → IfOk (done_or f o) IsPlain
  or_plain f p (Some a) = p a
  or_plain f p None = tt

  pub tried_plain : (f : A → Result Effect Fault) → ((a : A) → IfOk (f a) IsPlain) → (r : Result A Fault) → IfOk (then_tried f r) IsPlain
  tried_plain f p (Ok a) = p a
  tried_plain f p (Err why) = tt

-- ---- primitives
pub one_plain : (p : TaggedPrim) (n : ℤ) → IfOk (one_done p n) IsPlain
one_plain tagged.Negate n = plain_number (int_neg n)
one_plain tagged.AsInt64 n = plain_fitted (int_to_i64 n)
one_plain tagged.Str n = tt
one_plain _ n = tt

computed_plain : (o : Option (Result ℤ Arith)) → IfOk (done_or tagged_or o) IsPlain
computed_plain o = or_plain tagged_or plain_number o

pub two_plain : (p : TaggedPrim) (m n : ℤ) → IfOk (two_done p m n) IsPlain
two_plain tagged.Eq m n = plain_truth (int_eq m n)
two_plain tagged.Lt m n = plain_truth (int_lt m n)
two_plain tagged.Le m n = plain_truth (not (int_lt n m))
two_plain p m n = computed_plain (computed p m n)

texts_plain : (p : StrPrim) (a b : List ℕ) → IfOk (texts_done p a b) IsPlain
texts_plain str.Concat a b = tt
texts_plain str.Eq a b = plain_truth (bytes_eq a b)
texts_plain str.Lt a b = plain_truth (text_less a b)
texts_plain str.Le a b = plain_truth (not (text_less b a))
texts_plain _ a b = tt

module _ (cells : Cells Content) (vars : List Word) (args : List CArg) where
  pub str_plain : (p : StrPrim) → IfOk (str_done p cells vars args) IsPlain
  str_plain str.Literal = or_plain _ (λ text. tt) (only_text args)
  str_plain str.Len = then_plain _ (λ text. plain_int (text_length text)) (one_text cells vars args)
  str_plain str.GetItem = then_plain _ (λ q. plain_item (text_item q.0 q.1)) (text_and_int cells vars args)
  str_plain p = tried_plain _ (λ q. texts_plain p q.0 q.1) (two_texts cells vars args)

  pub box_plain : IfOk (box_done vars args) IsPlain
  box_plain = or_plain _ (λ n. tt) (one_native vars args)

  pub unbox_plain : IfOk (unbox_done cells vars args) IsPlain
  unbox_plain = then_plain _ (λ q. plain_native (int_to_i64 q.1)) (one_boxed cells vars args)

  truth_plain : (p : BoolPrim) (n : ℕ) → IsPlain (truth_done p n)
  truth_plain bool.Not n = plain_truth _
  truth_plain bool.Str n = tt
  truth_plain bool.Box n = plain_object n
  truth_plain bool.Unbox n = tt

  pub bool_plain : (p : BoolPrim) → IfOk (bool_done p cells vars args) IsPlain
  bool_plain bool.Not = or_plain _ (truth_plain bool.Not) (one_char vars args)
  bool_plain bool.Str = or_plain _ (truth_plain bool.Str) (one_char vars args)
  bool_plain bool.Box = or_plain _ (truth_plain bool.Box) (one_char vars args)
  bool_plain bool.Unbox = then_plain _ plain_in (one_object cells vars args)

  pub object_plain : (p : ObjectPrim) → IfOk (object_done p cells vars args) IsPlain
  object_plain object.IsNone = then_plain _ (λ w. plain_truth (is_none_object w)) (one_object cells vars args)

-- ---- what is said
-- an effect that says a word says one without a cell
abbrev IsSaid : Effect → Type 0
IsSaid (Says w) = refs_of w ≡ []
IsSaid e = Unit {0}

plain_said : (e : Effect) → IsPlain e → IsSaid e
plain_said (Says w) p = p
plain_said _ p = tt

all_said : (r : Result Effect Fault) → IfOk r IsPlain → IfOk r IsSaid
all_said (Ok e) p = plain_said e p
all_said (Err why) p = tt

said_either : (b : Bool) (c : ℕ) (n : ℤ) → IsSaid (cond b (Says (machine.ShortInt n)) (Shares (machine.BigInt c)))
said_either true c n = refl
said_either false c n = tt

unboxed_said : (r : Result (ℕ × ℤ) Fault) → IfOk (then_done (λ q. unboxed q.0 q.1) r) IsSaid
unboxed_said (Ok q) = said_either (is_short q.1) q.0 q.1
unboxed_said (Err why) = tt

module _ (cells : Cells Content) (vars : List Word) (args : List CArg) where
  tagged_said : (p : TaggedPrim) → IfOk (tagged_done p cells vars args) IsSaid
  tagged_said tagged.FromText = all_said _ (or_plain _ (λ n. tt) (number_written (only_text args)))
  tagged_said tagged.FromInt64 = all_said _ (or_plain _ plain_int (one_native vars args))
  tagged_said tagged.FromBool = all_said _ (or_plain _ (λ n. plain_int (pos n)) (one_char vars args))
  tagged_said tagged.Negate = all_said _ (tried_plain _ (one_plain tagged.Negate) (one_int cells vars args))
  tagged_said tagged.AsInt64 = all_said _ (tried_plain _ (one_plain tagged.AsInt64) (one_int cells vars args))
  tagged_said tagged.Str = all_said _ (tried_plain _ (one_plain tagged.Str) (one_int cells vars args))
  tagged_said tagged.Unbox = unboxed_said (one_boxed cells vars args)
  tagged_said p = all_said _ (tried_plain _ (λ q. two_plain p q.0 q.1) (two_ints cells vars args))

  -- a word that a primitive on `int`s says
  pub tagged_word : (p : TaggedPrim) (w : Word) → tagged_done p cells vars args ≡ Ok (Says w) → refs_of w ≡ []
  tagged_word p w e = subst (λ r. IfOk r IsSaid) e (tagged_said p)

-- ---- native integers
native_said : (r : Result ℤ Arith) → IsSaid (native_or r)
native_said (Ok n) = refl
native_said (Err f) = tt

two_said : (p : Int64Prim) (a b : ℤ) → IfSome (two_effect p a b) IsSaid
two_said int64.Add a b = refl
two_said int64.Subtract a b = refl
two_said int64.Multiply a b = refl
two_said int64.FloorDivide a b = native_said (i64_floor_div a b)
two_said int64.Remainder a b = native_said (i64_modulo a b)
two_said int64.Lshift a b = native_said (i64_shl a b)
two_said int64.Rshift a b = native_said (i64_shr a b)
two_said int64.Eq a b = plain_truth (int_eq a b)
two_said int64.Lt a b = plain_truth (int_lt a b)
two_said int64.Le a b = plain_truth (not (int_lt b a))
two_said _ a b = tt

both_said : (p : Int64Prim) (o : Option (ℤ × ℤ)) → IfSome (option_and_then (λ q. two_effect p q.0 q.1) o) IsSaid
both_said p None = tt
both_said p (Some q) = two_said p q.0 q.1

one_said : (f : ℤ → ℤ) (o : Option ℤ) → IfSome (option_map (λ n. Says (machine.Native (f n))) o) IsSaid
one_said f None = tt
one_said f (Some n) = refl

int64_said : (p : Int64Prim) (vars : List Word) (args : List CArg) → IfSome (int64_effect p vars args) IsSaid
int64_said int64.Negate vars args = one_said i64_neg (one_native vars args)
int64_said int64.FromBool vars args = char_said (one_char vars args)
  where
    char_said : (o : Option ℕ) → IfSome (option_map (λ n. Says (machine.Native (pos n))) o) IsSaid
    char_said None = tt
    char_said (Some n) = refl
int64_said int64.Str vars args = tt
int64_said p vars args = both_said p (two_natives vars args)

outcome_said : (cells : Cells Placed) (o : Option (Result heap.Word Arith)) (e : Option Effect) → option_map parts.effect_of o ≡ e → IfSome e IsSaid → IfSome o (λ r. IfOk r (IsOurWord cells))
outcome_said cells None e is p = tt
outcome_said cells (Some (Ok w)) e is p = plain_word cells w (subst (λ x. IfSome x IsSaid) (sym is) p)
outcome_said cells (Some (Err f)) e is p = tt

-- what comes of a primitive on native integers refers to no cell
pub outcome_own : (cells : Cells Placed) (p : Int64Prim) (vars : List Word) (args : List CArg) (o : Option (Result heap.Word Arith)) → option_map parts.effect_of o ≡ int64_effect p vars args → IfSome o (λ r. IfOk r (IsOurWord cells))
outcome_own cells p vars args o is = outcome_said cells o (int64_effect p vars args) is (int64_said p vars args)

-- the same for what a call answers
pub plain_tried : {E : Type 0} (cells : Cells Placed) (r : Result (Result Deed Fault) E) (e : Result Effect Fault) → IfOk r (λ d. done_by d ≡ e) → IfOk e IsPlain → IfOk r (λ d. IfOk d (IsOurDeed cells))
plain_tried cells (Ok d) e is p = plain_done cells d e is p
plain_tried cells (Err why) e is p = tt
