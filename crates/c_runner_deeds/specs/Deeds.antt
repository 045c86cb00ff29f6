-- What the primitives on `int`s, texts and objects find in their arguments, and what they do.
use Rattle.std.specs.Prelude.{ℕ, ℤ, pos, Bool, true, false, not, cond, int_lt, nat_lt, ◌==◌, List, [], ◌++◌, length, Option, Some, None, Result, Ok, Err, IfOk, slice_get, is_some}
use Rattle.std.specs.Fmt.{signed_decimal}
use Rattle.std.specs.Ordering.{int_eq}
use Rattle.std.specs.Str.{bytes_eq}
use Rattle.std.specs.Str.Parse.{signed_digits_value}
use Rattle.value_core.specs.declared.arith.Arith.{Arith}
use Rattle.value_core.specs.Arithmetic.{int_add, int_sub, int_mul, int_neg, int_floor_div, int_modulo, int_shl, int_shr, int_to_i64}
use Rattle.value_core.specs.Characters.{place_of}
use Rattle.value_core.specs.Exceptions.{thrown}
use Rattle.c_core.specs.declared.code.CArg.{CArg}
use Rattle.c_core.specs.declared.code.Code.{Code}
use Rattle.c_core.specs.declared.fault.Fault.{Fault}
use Rattle.c_core.specs.declared.fault.Fault.TheVariants as fault
use Rattle.c_core.specs.Keys.{key_of, key_place}
use Rattle.c_core.specs.Step.{of_key, value_at, sized, key_at, Next, Ends, Faulted, Effect, Wrong, Says, Shares, Lends, Makes, MakesInt, Fails, applied, truth_word, truth_object, truth_text, tagged_effect, tagged_or, fitted, native_in, unboxed, item_at, part_at, item_or, lent, primitive_step}
use Rattle.c_core.specs.declared.primitive.Primitive.{Primitive}
use Rattle.c_core.specs.declared.primitive.TaggedPrim.{TaggedPrim}
use Rattle.c_core.specs.declared.primitive.TaggedPrim.TheVariants as tagged
use Rattle.c_core.specs.declared.primitive.BoolPrim.{BoolPrim}
use Rattle.c_core.specs.declared.primitive.BoolPrim.TheVariants as bool
use Rattle.c_core.specs.declared.primitive.ObjectPrim.{ObjectPrim}
use Rattle.c_core.specs.declared.primitive.ObjectPrim.TheVariants as object
use Rattle.c_core.specs.declared.primitive.ListPrim.{ListPrim}
use Rattle.c_core.specs.declared.primitive.ListPrim.TheVariants as list
use Rattle.c_core.specs.declared.primitive.DictPrim.{DictPrim}
use Rattle.c_core.specs.declared.primitive.DictPrim.TheVariants as dict
use Rattle.c_core.specs.declared.primitive.TuplePrim.{TuplePrim}
use Rattle.c_core.specs.declared.primitive.TuplePrim.TheVariants as tuple
use Rattle.c_core.specs.declared.primitive.StrPrim.{StrPrim}
use Rattle.c_core.specs.declared.primitive.StrPrim.TheVariants as str
use Rattle.c_core.specs.Cells.{Cells, content_at}
use Rattle.c_core.specs.Machine.{Word, ShortInt, BigInt, CharWord, ObjectCell, NoneObject, TrueObject, FalseObject, Content, IntCell, StrCell, MachineState}
use Rattle.c_core.specs.Strings.{counted_length, is_long_decimal, text_less, text_length, text_item}
use Rattle.c_runner_deeds.specs.declared.deed.Deed.{Deed}
use Rattle.c_runner_deeds.specs.declared.deed.Deed.TheVariants as deed
use Rattle.c_runner_deeds.specs.declared.ending.Ending.{Ending}
use Rattle.c_runner_deeds.specs.Objects.{word_at, boxed_at, list_at, dict_at, key_argument, tuple_at, instance_at, any_at, written_number}
use Rattle.c_runner_deeds.specs.Parts.{one_native, one_char, only_text}
use Rattle.c_runner_deeds.specs.States.{Seen, Follows, Leads}
use Rattle.cell_heap.specs.Contents as contents
use Rattle.cell_heap.specs.Placed.{Placed}
use Rattle.c_runner_deeds.specs.Ours.{IsOurWord}

-- ---- arguments
-- the number of an `int`, where these are the cells: of a cell, of a word, and of a word that may not be there
abbrev pub int_held : Option Content → Result ℤ Fault
int_held None = Err fault.Dead
int_held (Some (IntCell n)) = Ok n
int_held (Some _) = Err fault.Kind

abbrev pub int_of : Cells Content → Option Word → Result ℤ Fault
int_of cells (Some (ShortInt n)) = Ok n
int_of cells (Some (BigInt c)) = int_held (content_at cells c)
int_of cells _ = Err fault.Kind

-- the same of a text
abbrev pub text_held : Option Content → Result (List ℕ) Fault
text_held None = Err fault.Dead
text_held (Some (StrCell text)) = Ok text
text_held (Some _) = Err fault.Kind

abbrev pub text_of : Cells Content → Option Word → Result (List ℕ) Fault
text_of cells (Some (ObjectCell c)) = text_held (content_at cells c)
text_of cells _ = Err fault.Kind

abbrev pub int_at : Cells Content → List Word → Option CArg → Result ℤ Fault
int_at cells vars a = int_of cells (word_at vars a)

abbrev pub text_at : Cells Content → List Word → Option CArg → Result (List ℕ) Fault
text_at cells vars a = text_of cells (word_at vars a)

-- what was found in one argument, or in two, of so many: each is tested before the next one, and then that there are no more
abbrev pub alone : {A : Type 0} → Result A Fault → ℕ → Result A Fault
alone (Ok a) n = cond (nat_lt 1 n) (Err fault.Kind) (Ok a)
alone (Err f) n = Err f

abbrev pub paired : {A B : Type 0} → Result A Fault → Result B Fault → ℕ → Result (A × B) Fault
paired (Ok a) (Ok b) n = cond (nat_lt 2 n) (Err fault.Kind) (Ok (a, b))
paired (Ok a) (Err f) n = Err f
paired (Err f) second n = Err f

abbrev pub one_int : Cells Content → List Word → List CArg → Result ℤ Fault
one_int cells vars args = alone (int_at cells vars (slice_get args 0)) (length args)

abbrev pub two_ints : Cells Content → List Word → List CArg → Result (ℤ × ℤ) Fault
two_ints cells vars args = paired (int_at cells vars (slice_get args 0)) (int_at cells vars (slice_get args 1)) (length args)

abbrev pub one_text : Cells Content → List Word → List CArg → Result (List ℕ) Fault
one_text cells vars args = alone (text_at cells vars (slice_get args 0)) (length args)

abbrev pub two_texts : Cells Content → List Word → List CArg → Result (List ℕ × List ℕ) Fault
two_texts cells vars args = paired (text_at cells vars (slice_get args 0)) (text_at cells vars (slice_get args 1)) (length args)

abbrev pub text_and_int : Cells Content → List Word → List CArg → Result (List ℕ × ℤ) Fault
text_and_int cells vars args = paired (text_at cells vars (slice_get args 0)) (int_at cells vars (slice_get args 1)) (length args)

-- a number in a cell, a list, a tuple, and any object
abbrev pub one_boxed : Cells Content → List Word → List CArg → Result (ℕ × ℤ) Fault
one_boxed cells vars args = alone (boxed_at cells vars (slice_get args 0)) (length args)

abbrev pub one_list : Cells Content → List Word → List CArg → Result (ℕ × List Word) Fault
one_list cells vars args = alone (list_at cells vars (slice_get args 0)) (length args)

abbrev pub one_dict : Cells Content → List Word → List CArg → Result (ℕ × List (Word × Word)) Fault
one_dict cells vars args = alone (dict_at cells vars (slice_get args 0)) (length args)

abbrev pub one_tuple : Cells Content → List Word → List CArg → Result (ℕ × List Word) Fault
one_tuple cells vars args = alone (tuple_at cells vars (slice_get args 0)) (length args)

abbrev pub one_object : Cells Content → List Word → List CArg → Result Word Fault
one_object cells vars args = alone (any_at cells vars (slice_get args 0)) (length args)

-- a list and an `int`, a tuple and a number that is written
abbrev pub list_and_int : Cells Content → List Word → List CArg → Result ((ℕ × List Word) × ℤ) Fault
list_and_int cells vars args = paired (list_at cells vars (slice_get args 0)) (int_at cells vars (slice_get args 1)) (length args)

-- a dict and a key, a dict and an `int`
abbrev pub dict_and_key : Cells Content → List Word → List CArg → Result ((ℕ × List (Word × Word)) × Word) Fault
dict_and_key cells vars args = paired (dict_at cells vars (slice_get args 0)) (key_argument cells vars (slice_get args 1)) (length args)

abbrev pub dict_and_int : Cells Content → List Word → List CArg → Result ((ℕ × List (Word × Word)) × ℤ) Fault
dict_and_int cells vars args = paired (dict_at cells vars (slice_get args 0)) (int_at cells vars (slice_get args 1)) (length args)

abbrev pub tuple_and_number : Cells Content → List Word → List CArg → Result ((ℕ × List Word) × ℤ) Fault
tuple_and_number cells vars args = paired (tuple_at cells vars (slice_get args 0)) (written_number (slice_get args 1)) (length args)

-- an instance, with its class and its attributes, and a place that is written
abbrev pub instance_and_place : Cells Content → List Word → List CArg → Result ((ℕ × (ℕ × List (Option Word))) × ℤ) Fault
instance_and_place cells vars args = paired (instance_at cells vars (slice_get args 0)) (written_number (slice_get args 1)) (length args)

-- ---- what is done
abbrev pub effect_of : Deed → Effect
effect_of (deed.Says w) = Says (contents.word_of w)
effect_of (deed.Shares w) = Shares (contents.word_of w)
effect_of (deed.Lends w) = Lends (contents.word_of w)
effect_of (deed.MakesInt n) = MakesInt n
effect_of (deed.MakesNumber n) = Makes (IntCell n)
effect_of (deed.MakesText text) = Makes (StrCell text)
effect_of (deed.Fails w class text) = Fails (contents.word_of w) (thrown class text)
effect_of deed.Wrong = Wrong

-- what is done with what was found, if anything was
abbrev pub then_done : {A : Type 0} → (A → Effect) → Result A Fault → Result Effect Fault
then_done f (Ok a) = Ok (f a)
then_done f (Err why) = Err why

abbrev pub done_or : {A : Type 0} → (A → Effect) → Option A → Result Effect Fault
done_or f (Some a) = Ok (f a)
done_or f None = Err fault.Kind

abbrev pub then_tried : {A : Type 0} → (A → Result Effect Fault) → Result A Fault → Result Effect Fault
then_tried f (Ok a) = f a
then_tried f (Err why) = Err why

-- what is done, or why the run faults, as the runner and as the machine has it
abbrev pub done_by : Result Deed Fault → Result Effect Fault
done_by outcome = then_done effect_of outcome

-- what is read is lent
abbrev pub lent_done : Result Effect Fault → Result Effect Fault
lent_done d = then_done lent d

abbrev pub performed : Option ℕ → Result Effect Fault → MachineState → Next
performed target (Ok e) s = applied true s target s.top.ledger [] e
performed target (Err why) s = Ends (Faulted why) s

-- ---- `int`s
-- the number of a text that writes one as it is printed, which is no short one
abbrev pub number_written : Option (List ℕ) → Option ℤ
number_written None = None
number_written (Some text) = cond (is_long_decimal text) (Some (signed_digits_value 10 text)) None

-- what a primitive on one `int`, and on two, does
abbrev pub one_done : TaggedPrim → ℤ → Result Effect Fault
one_done tagged.Negate n = Ok (tagged_or (int_neg n))
one_done tagged.AsInt64 n = Ok (fitted (int_to_i64 n))
one_done tagged.Str n = Ok (Makes (StrCell (signed_decimal n)))
one_done _ n = Err fault.Kind

abbrev pub computed : TaggedPrim → ℤ → ℤ → Option (Result ℤ Arith)
computed tagged.Add m n = Some (int_add m n)
computed tagged.Subtract m n = Some (int_sub m n)
computed tagged.Multiply m n = Some (int_mul m n)
computed tagged.FloorDivide m n = Some (int_floor_div m n)
computed tagged.Remainder m n = Some (int_modulo m n)
computed tagged.Lshift m n = Some (int_shl m n)
computed tagged.Rshift m n = Some (int_shr m n)
computed _ m n = None

abbrev pub two_done : TaggedPrim → ℤ → ℤ → Result Effect Fault
two_done tagged.Eq m n = Ok (Says (truth_word (int_eq m n)))
two_done tagged.Lt m n = Ok (Says (truth_word (int_lt m n)))
two_done tagged.Le m n = Ok (Says (truth_word (not (int_lt n m))))
two_done p m n = done_or tagged_or (computed p m n)

-- what a primitive on `int`s does, where these are the cells, the variables and the arguments
abbrev pub tagged_done : TaggedPrim → Cells Content → List Word → List CArg → Result Effect Fault
tagged_done tagged.FromText cells vars args = done_or MakesInt (number_written (only_text args))
tagged_done tagged.FromInt64 cells vars args = done_or tagged_effect (one_native vars args)
tagged_done tagged.FromBool cells vars args = done_or (λ n. tagged_effect (pos n)) (one_char vars args)
tagged_done tagged.Negate cells vars args = then_tried (one_done tagged.Negate) (one_int cells vars args)
tagged_done tagged.AsInt64 cells vars args = then_tried (one_done tagged.AsInt64) (one_int cells vars args)
tagged_done tagged.Str cells vars args = then_tried (one_done tagged.Str) (one_int cells vars args)
tagged_done tagged.Unbox cells vars args = then_done (λ q. unboxed q.0 q.1) (one_boxed cells vars args)
tagged_done p cells vars args = then_tried (λ q. two_done p q.0 q.1) (two_ints cells vars args)

-- ---- texts
-- what a primitive on two texts does
abbrev pub texts_done : StrPrim → List ℕ → List ℕ → Result Effect Fault
texts_done str.Concat a b = Ok (Makes (StrCell (a ++ b)))
texts_done str.Eq a b = Ok (Says (truth_word (bytes_eq a b)))
texts_done str.Lt a b = Ok (Says (truth_word (text_less a b)))
texts_done str.Le a b = Ok (Says (truth_word (not (text_less b a))))
texts_done _ a b = Err fault.Kind

-- what a primitive on texts does
abbrev pub str_done : StrPrim → Cells Content → List Word → List CArg → Result Effect Fault
str_done str.Literal cells vars args = done_or (λ text. Makes (StrCell text)) (only_text args)
str_done str.Len cells vars args = then_done (λ text. tagged_effect (text_length text)) (one_text cells vars args)
str_done str.GetItem cells vars args = then_done (λ q. item_or (text_item q.0 q.1)) (text_and_int cells vars args)
str_done p cells vars args = then_tried (λ q. texts_done p q.0 q.1) (two_texts cells vars args)

-- ---- objects
-- what is done with a native integer, and with the number in a cell, which is to fit
abbrev pub box_done : List Word → List CArg → Result Effect Fault
box_done vars args = done_or (λ n. Makes (IntCell n)) (one_native vars args)

abbrev pub unbox_done : Cells Content → List Word → List CArg → Result Effect Fault
unbox_done cells vars args = then_done (λ q. native_in (int_to_i64 q.1)) (one_boxed cells vars args)

-- what a primitive on a truth does, and what is done with an object that is to be one
abbrev pub truth_done : BoolPrim → ℕ → Effect
truth_done bool.Not n = Says (truth_word (n == 0))
truth_done bool.Str n = Makes (StrCell (truth_text n))
truth_done bool.Box n = Says (truth_object n)
truth_done bool.Unbox n = Wrong

abbrev pub truth_in : Word → Effect
truth_in TrueObject = Says (CharWord 1)
truth_in FalseObject = Says (CharWord 0)
truth_in _ = Wrong

-- what a primitive on truths does
abbrev pub bool_done : BoolPrim → Cells Content → List Word → List CArg → Result Effect Fault
bool_done bool.Not cells vars args = done_or (truth_done bool.Not) (one_char vars args)
bool_done bool.Str cells vars args = done_or (truth_done bool.Str) (one_char vars args)
bool_done bool.Box cells vars args = done_or (truth_done bool.Box) (one_char vars args)
bool_done bool.Unbox cells vars args = then_done truth_in (one_object cells vars args)

-- what a primitive on any object does
abbrev pub is_none_object : Word → Bool
is_none_object NoneObject = true
is_none_object _ = false

abbrev pub object_done : ObjectPrim → Cells Content → List Word → List CArg → Result Effect Fault
object_done object.IsNone cells vars args = then_done (λ w. Says (truth_word (is_none_object w))) (one_object cells vars args)

-- the item of a list and its length, and the part of a tuple and how many it has
abbrev pub list_item_done : Cells Content → List Word → List CArg → Result Effect Fault
list_item_done cells vars args = then_done (λ q. item_at (place_of (length q.0.1) q.1) q.0.1) (list_and_int cells vars args)

abbrev pub list_length_done : Cells Content → List Word → List CArg → Result Effect Fault
list_length_done cells vars args = then_done (λ q. tagged_effect (pos (counted_length (length q.1)))) (one_list cells vars args)

-- the value of a key in a dict and whether it has the key, whether it has as many pairs as before, the key at a place and the number of
-- pairs
abbrev pub dict_item_done : Cells Content → List Word → List CArg → Result Effect Fault
dict_item_done cells vars args =
    then_done (λ q. of_key (λ k. value_at k (key_place cells k q.0.1) q.0.1) (key_of cells q.1)) (dict_and_key cells vars args)

abbrev pub dict_contains_done : Cells Content → List Word → List CArg → Result Effect Fault
dict_contains_done cells vars args =
    then_done (λ q. of_key (λ k. Says (truth_word (is_some (key_place cells k q.0.1)))) (key_of cells q.1)) (dict_and_key cells vars args)

abbrev pub dict_size_done : Cells Content → List Word → List CArg → Result Effect Fault
dict_size_done cells vars args =
    then_done (λ q. sized (int_eq (pos (counted_length (length q.0.1))) q.1)) (dict_and_int cells vars args)

abbrev pub dict_key_done : Cells Content → List Word → List CArg → Result Effect Fault
dict_key_done cells vars args = then_done (λ q. key_at q.0.1 q.1) (dict_and_int cells vars args)

abbrev pub dict_length_done : Cells Content → List Word → List CArg → Result Effect Fault
dict_length_done cells vars args = then_done (λ q. tagged_effect (pos (counted_length (length q.1)))) (one_dict cells vars args)

abbrev pub tuple_item_done : Cells Content → List Word → List CArg → Result Effect Fault
tuple_item_done cells vars args = then_done (λ q. part_at q.0.1 q.1) (tuple_and_number cells vars args)

abbrev pub tuple_length_done : Cells Content → List Word → List CArg → Result Effect Fault
tuple_length_done cells vars args = then_done (λ q. tagged_effect (pos (counted_length (length q.1)))) (one_tuple cells vars args)

-- what a primitive does that reads a list, a dict or a tuple
abbrev pub list_done : ListPrim → Cells Content → List Word → List CArg → Result Effect Fault
list_done list.GetItem cells vars args = list_item_done cells vars args
list_done list.GetItemBorrow cells vars args = lent_done (list_item_done cells vars args)
list_done list.Len cells vars args = list_length_done cells vars args
list_done _ cells vars args = Err fault.Kind

abbrev pub dict_done : DictPrim → Cells Content → List Word → List CArg → Result Effect Fault
dict_done dict.GetItem cells vars args = dict_item_done cells vars args
dict_done dict.Contains cells vars args = dict_contains_done cells vars args
dict_done dict.CheckSize cells vars args = dict_size_done cells vars args
dict_done dict.KeyAt cells vars args = dict_key_done cells vars args
dict_done dict.Len cells vars args = dict_length_done cells vars args
dict_done _ cells vars args = Err fault.Kind

abbrev pub tuple_done : TuplePrim → Cells Content → List Word → List CArg → Result Effect Fault
tuple_done tuple.GetItem cells vars args = tuple_item_done cells vars args
tuple_done tuple.GetItemBorrow cells vars args = lent_done (tuple_item_done cells vars args)
tuple_done tuple.Len cells vars args = tuple_length_done cells vars args
tuple_done _ cells vars args = Err fault.Kind

-- ---- calls
-- what comes of the call of a primitive, whatever the code; and of one that may make an object
abbrev pub Calls : {E : Type 0} → Primitive → Option ℕ → List CArg → Seen → Seen → Result (Option Ending) E → Type 0
Calls p target args old new result =
    IfOk result (λ ending. (code : Code) → Follows (λ s. primitive_step true s code target args p) ending old new)

abbrev pub MayMake : {E : Type 0} → Primitive → Option ℕ → List CArg → Seen → Seen → Result (Option Ending) E → Type 0
MayMake p target args old new result =
    IfOk result (λ ending. (code : Code) → Leads (λ s. primitive_step true s code target args p) ending old new)

-- a deed answers a word without a cell, or with one of this heap
abbrev pub IsOurDeed : Cells Placed → Deed → Type 0
IsOurDeed cells (deed.Says w) = IsOurWord cells w
IsOurDeed cells (deed.Shares w) = IsOurWord cells w
IsOurDeed cells (deed.Lends w) = IsOurWord cells w
IsOurDeed cells (deed.MakesInt n) = Unit {0}
IsOurDeed cells (deed.MakesNumber n) = Unit {0}
IsOurDeed cells (deed.MakesText text) = Unit {0}
IsOurDeed cells (deed.Fails w class text) = IsOurWord cells w
IsOurDeed cells deed.Wrong = Unit {0}
