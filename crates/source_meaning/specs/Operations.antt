-- What operators and builtins do with values (Python Language Reference, "Expressions"; Python Library Reference, "Built-in Functions",
-- "Built-in Types").
use Rattle.std.specs.Prelude.{ℕ, zero, suc, ◌^◌, ◌-◌, ℤ, pos, negsuc, Bool, true, false, not, List, [], ◌∷◌, ◌++◌, length, map, take, Option, Some, None, Result, Ok, Err, slice_get, slice_set, nat_lt, int_lt, ◌==◌, ◌&&◌, ◌||◌, if◌then◌else◌, codes}
use Rattle.std.specs.Fmt.{signed_decimal}
use Rattle.std.specs.Option.{option_map}
use Rattle.std.specs.Str.{chars, encode_utf8_all, bytes_eq}
use Rattle.value_core.specs.declared.arith.Arith.{Arith}
use Rattle.value_core.specs.declared.arith.Arith.TheVariants.{Overflow, ZeroDivisor, NegativeShift, OutOfRange}
use Rattle.value_core.specs.declared.exception.ExcClass.TheVariants.{ValueError, ZeroDivisionError, OverflowError, IndexError, KeyError, EOFError}
use Rattle.value_core.specs.Arithmetic.{int_add, int_sub, int_mul, int_neg, int_floor_div, int_modulo, int_shl, int_shr, i64_add, i64_sub, i64_mul, i64_neg, i64_floor_div, i64_modulo, i64_shl, i64_shr, int_to_i64}
use Rattle.value_core.specs.Characters.{place_of}
use Rattle.value_core.specs.Exceptions.{thrown}
use Rattle.value_core.specs.Items as item
use Rattle.value_core.specs.Items.{Items, line_feed}
use Rattle.value_core.specs.Value.{Value, IntVal, BoolVal, NoneVal, StrVal, TupleVal, ExcVal, ObjVal, listed, Object, ListObj, DictObj, InstObj}
use Rattle.py_syntax.specs.declared.expression.BinOp.{BinOp}
use Rattle.py_syntax.specs.declared.expression.BinOp.TheVariants.{Add, Sub, Mul, FloorDiv, Mod, Shl, Shr, Bar}
use Rattle.py_syntax.specs.declared.expression.CmpOp.{CmpOp}
use Rattle.py_syntax.specs.declared.expression.CmpOp.TheVariants as compare
use Rattle.py_typed.specs.Sorts.{Sort, Int, I64, Str, ListOf, DictOf, Optional}
use Rattle.py_typed.specs.TargetTypes.{key_sort}
use Rattle.source_meaning.specs.State.{Over, Broken, Stuck, Does, Gives, Raises, ◌>>=◌, ◌>>◌, give, stop, raise_new, look, sure, needs, put, set_items}

-- ---- numbers

abbrev pub past_range : List ℕ
past_range = codes "integer is past 128 bits"

abbrev pub no_i64 : List ℕ
no_i64 = codes "integer does not fit in i64"

-- the result of arithmetic, or its exception; of an overflow it is said past which range the result lies
abbrev pub raise_fault : {A : Type 0} → List ℕ → Arith → Does A
raise_fault past Overflow = raise_new OverflowError past
raise_fault past ZeroDivisor = raise_new ZeroDivisionError (codes "integer division or modulo by zero")
raise_fault past NegativeShift = raise_new ValueError (codes "negative shift count")
raise_fault past OutOfRange = raise_new ValueError (codes "shift count out of range")

abbrev pub number_of : List ℕ → Result ℤ Arith → Does Value
number_of past (Ok n) = give (IntVal n)
number_of past (Err fault) = raise_fault past fault

abbrev pub of_int : BinOp → ℤ → ℤ → Does Value
of_int Add a b = number_of past_range (int_add a b)
of_int Sub a b = number_of past_range (int_sub a b)
of_int Mul a b = number_of past_range (int_mul a b)
of_int FloorDiv a b = number_of past_range (int_floor_div a b)
of_int Mod a b = number_of past_range (int_modulo a b)
of_int Shl a b = number_of past_range (int_shl a b)
of_int Shr a b = number_of past_range (int_shr a b)
of_int Bar a b = stop Stuck

abbrev pub of_i64 : BinOp → ℤ → ℤ → Does Value
of_i64 Add a b = give (IntVal (i64_add a b))
of_i64 Sub a b = give (IntVal (i64_sub a b))
of_i64 Mul a b = give (IntVal (i64_mul a b))
of_i64 FloorDiv a b = number_of no_i64 (i64_floor_div a b)
of_i64 Mod a b = number_of no_i64 (i64_modulo a b)
of_i64 Shl a b = number_of no_i64 (i64_shl a b)
of_i64 Shr a b = number_of no_i64 (i64_shr a b)
of_i64 Bar a b = stop Stuck

-- by the type of the result
abbrev pub of_numbers : Sort → BinOp → ℤ → ℤ → Does Value
of_numbers Int op a b = of_int op a b
of_numbers I64 op a b = of_i64 op a b
of_numbers _ op a b = stop Stuck

abbrev pub with_number : {A : Type 0} → Value → (ℤ → Does A) → Does A
with_number (IntVal n) f = f n
with_number _ f = stop Stuck

-- ---- coercions

-- an int as the equal i64
abbrev pub fitting : Result ℤ Arith → Does Value
fitting (Ok n) = give (IntVal n)
fitting (Err fault) = raise_new OverflowError no_i64

-- a value as one of this type: a bool is 0 or 1 where a number is asked for, and an int is an i64 only where it fits; the
-- same where None may stand too; all else is kept
abbrev pub coerced : Sort → Value → Does Value
coerced Int (BoolVal b) = give (IntVal (if b then pos 1 else pos 0))
coerced I64 (BoolVal b) = give (IntVal (if b then pos 1 else pos 0))
coerced I64 (IntVal n) = fitting (int_to_i64 n)
coerced (Optional t) v = coerced t v
coerced _ v = give v

-- arithmetic in this type: both operands are there before the first is coerced
abbrev pub arithmetic : Sort → BinOp → Value → Value → Does Value
arithmetic t op x y = coerced t x >>= λ a. coerced t y >>= λ b. with_number a (λ m. with_number b (λ n. of_numbers t op m n))

-- a number with the other sign
abbrev pub negated_as : Sort → ℤ → Does Value
negated_as Int n = number_of past_range (int_neg n)
negated_as I64 n = give (IntVal (i64_neg n))
negated_as _ n = stop Stuck

abbrev pub negated : Sort → Value → Does Value
negated t x = coerced t x >>= λ a. with_number a (negated_as t)

-- two texts, one behind the other
abbrev pub joined : Value → Value → Does Value
joined (StrVal a) (StrVal b) = give (StrVal (a ++ b))
joined _ _ = stop Stuck

-- what `+=` and its like do: to texts where the result is a text, else to numbers
abbrev pub combined : Sort → BinOp → Value → Value → Does Value
combined Str Add x y = joined x y
combined t op x y = arithmetic t op x y

-- ---- comparisons

abbrev pub is_same_number : ℤ → ℤ → Bool
is_same_number a b = not (int_lt a b) && not (int_lt b a)

-- texts stand in the order of their code points
abbrev pub comes_before : List ℕ → List ℕ → Bool
comes_before s [] = false
comes_before [] (b ∷ t) = true
comes_before (a ∷ s) (b ∷ t) = nat_lt a b || ((a == b) && comes_before s t)

abbrev pub is_equal : Value → Value → Bool
is_equal (IntVal a) (IntVal b) = is_same_number a b
is_equal (BoolVal true) (BoolVal b) = b
is_equal (BoolVal false) (BoolVal b) = not b
is_equal (StrVal s) (StrVal t) = bytes_eq s t
is_equal _ _ = false

abbrev pub is_less : Value → Value → Bool
is_less (IntVal a) (IntVal b) = int_lt a b
is_less (BoolVal false) (BoolVal b) = b
is_less (StrVal s) (StrVal t) = comes_before (chars s) (chars t)
is_less _ _ = false

-- two numbers, two bools or two texts
abbrev pub are_alike : Value → Value → Bool
are_alike (IntVal a) (IntVal b) = true
are_alike (BoolVal a) (BoolVal b) = true
are_alike (StrVal s) (StrVal t) = true
are_alike _ _ = false

abbrev pub is_none : Value → Bool
is_none NoneVal = true
is_none _ = false

-- the join of two numbers, or of two texts, in which they are compared: i64 where one is, bool where both are, else int
abbrev pub compared_as : Sort → Sort → Sort
compared_as I64 t = I64
compared_as s I64 = I64
compared_as Int t = Int
compared_as s Int = Int
compared_as s t = s

-- ---- objects

-- the object of a value
abbrev pub with_object : {A : Type 0} → Value → (ℕ → Option Object → Does A) → Does A
with_object (ObjVal k) f = look (λ s. slice_get s.store k) (f k)
with_object _ f = stop Stuck

abbrev pub as_list : {A : Type 0} → (ℕ → List Value → Does A) → ℕ → Option Object → Does A
as_list f k (Some (ListObj vs)) = f k vs
as_list f k (Some (DictObj ps)) = stop Stuck
as_list f k (Some (InstObj c vs)) = stop Stuck
as_list f k None = stop Stuck

abbrev pub as_dict : {A : Type 0} → (ℕ → List (Value × Value) → Does A) → ℕ → Option Object → Does A
as_dict f k (Some (ListObj vs)) = stop Stuck
as_dict f k (Some (DictObj ps)) = f k ps
as_dict f k (Some (InstObj c vs)) = stop Stuck
as_dict f k None = stop Stuck

abbrev pub as_instance : {A : Type 0} → (ℕ → ℕ → List (Option Value) → Does A) → ℕ → Option Object → Does A
as_instance f k (Some (ListObj vs)) = stop Stuck
as_instance f k (Some (DictObj ps)) = stop Stuck
as_instance f k (Some (InstObj c vs)) = f k c vs
as_instance f k None = stop Stuck

-- goes on with a list's place and items, a dict's place and pairs, an instance's place, class and attributes
abbrev pub with_list : {A : Type 0} → Value → (ℕ → List Value → Does A) → Does A
with_list v f = with_object v (as_list f)

abbrev pub with_dict : {A : Type 0} → Value → (ℕ → List (Value × Value) → Does A) → Does A
with_dict v f = with_object v (as_dict f)

abbrev pub with_instance : {A : Type 0} → Value → (ℕ → ℕ → List (Option Value) → Does A) → Does A
with_instance v f = with_object v (as_instance f)

-- ---- lists, texts and tuples

-- the greatest int: a length past it counts as this
abbrev pub counted : ℕ → ℕ
counted n = if nat_lt n (2 ^ 127) then n else 2 ^ 127 - 1

-- goes on with a place, or else
abbrev pub with_place : {A : Type 0} → Does A → (ℕ → Does A) → Option ℕ → Does A
with_place otherwise f None = otherwise
with_place otherwise f (Some j) = f j

-- goes on with the place that an index means, or raises
abbrev pub at_place : {A : Type 0} → List ℕ → ℕ → Value → (ℕ → Does A) → Does A
at_place text n (IntVal i) f = with_place (raise_new IndexError text) f (place_of n i)
at_place text n _ f = stop Stuck

abbrev pub list_item : Value → Value → Does Value
list_item l i = with_list l (λ k vs. at_place (codes "list index out of range") (length vs) i (λ j. sure (slice_get vs j)))

abbrev pub set_list_item : Value → Value → Value → Does (Unit {0})
set_list_item l i v = with_list l (λ k vs. at_place (codes "list assignment index out of range") (length vs) i (λ j. put k (ListObj (slice_set vs j v))))

abbrev pub append_item : Value → Value → Does Value
append_item l v = with_list l (λ k vs. put k (ListObj (vs ++ v ∷ [])) >> give NoneVal)

abbrev pub pop_item : Value → Does Value
pop_item l = with_list l (λ k vs. at_place (codes "pop from empty list") (length vs) (IntVal (negsuc 0)) (λ j. put k (ListObj (take j vs)) >> sure (slice_get vs j)))

-- the code points of a text, each as a text
abbrev pub letters : List ℕ → List Value
letters text = map (λ c. StrVal (encode_utf8_all (c ∷ []))) (chars text)

abbrev pub letter : Value → Value → Does Value
letter (StrVal text) i = at_place (codes "string index out of range") (length (letters text)) i (λ j. sure (slice_get (letters text) j))
letter _ i = stop Stuck

abbrev pub tuple_part : ℕ → Value → Does Value
tuple_part i (TupleVal vs) = sure (slice_get (listed vs) i)
tuple_part i _ = stop Stuck

-- ---- dicts

-- the place of an equal key
abbrev pub key_place : Value → List (Value × Value) → Option ℕ
key_place key [] = None
key_place key (p ∷ ps) = if is_equal p.0 key then Some 0 else option_map suc (key_place key ps)

-- the pairs with this value under the key: a key that is there keeps its place and itself, a new one comes last
abbrev pub with_entry : Value → Value → List (Value × Value) → List (Value × Value)
with_entry key v [] = (key, v) ∷ []
with_entry key v (p ∷ ps) = if is_equal p.0 key then (p.0, v) ∷ ps else p ∷ with_entry key v ps

-- the pairs without that of the key
abbrev pub without_entry : Value → List (Value × Value) → List (Value × Value)
without_entry key [] = []
without_entry key (p ∷ ps) = if is_equal p.0 key then ps else p ∷ without_entry key ps

-- pairs entered one after another
abbrev pub entered : List (Value × Value) → List (Value × Value) → List (Value × Value)
entered [] pairs = pairs
entered (p ∷ ps) pairs = entered ps (with_entry p.0 p.1 pairs)

-- ---- texts of values, truth, lengths

abbrev pub flag_text : Bool → List ℕ
flag_text b = if b then codes "True" else codes "False"

-- `print` and `str` take numbers, bools, texts and exceptions
abbrev pub has_text : Value → Bool
has_text (IntVal n) = true
has_text (BoolVal b) = true
has_text (StrVal t) = true
has_text (ExcVal e) = true
has_text _ = false

-- as they write it
abbrev pub text_of : Value → List ℕ
text_of (IntVal n) = signed_decimal n
text_of (BoolVal b) = flag_text b
text_of (StrVal t) = t
text_of (ExcVal e) = e.text
text_of _ = []

-- the texts with one space between, and a line feed
abbrev pub line_of : List Value → List ℕ
line_of [] = line_feed ∷ []
line_of (v ∷ []) = text_of v ++ line_feed ∷ []
line_of (v ∷ vs) = text_of v ++ 32 ∷ line_of vs

-- a key that is not there is the text of the exception
abbrev pub at_key : {A : Type 0} → Value → List (Value × Value) → (ℕ → Does A) → Does A
at_key key ps f = with_place (needs (has_text key) (raise_new KeyError (text_of key))) f (key_place key ps)

abbrev pub dict_item : Value → Value → Does Value
dict_item d key = with_dict d (λ k ps. at_key key ps (λ j. sure (slice_get (map (λ p. p.1) ps) j)))

abbrev pub set_dict_item : Value → Value → Value → Does (Unit {0})
set_dict_item d key v = with_dict d (λ k ps. put k (DictObj (with_entry key v ps)))

abbrev pub delete_entry : Value → Value → Does (Unit {0})
delete_entry d key = with_dict d (λ k ps. at_key key ps (λ j. put k (DictObj (without_entry key ps))))

abbrev pub is_there : {A : Type 0} → Option A → Bool
is_there None = false
is_there (Some a) = true

abbrev pub has_key : Value → Value → Does Bool
has_key d key = with_dict d (λ k ps. give (is_there (key_place key ps)))

abbrev pub is_filled : {A : Type 0} → List A → Bool
is_filled [] = false
is_filled (a ∷ more) = true

abbrev pub truth_of_object : Option Object → Does Bool
truth_of_object (Some (ListObj vs)) = give (is_filled vs)
truth_of_object (Some (DictObj ps)) = give (is_filled ps)
truth_of_object (Some (InstObj c vs)) = give true
truth_of_object None = stop Stuck

-- numbers other than 0, and texts, lists and dicts that are not empty, are true; None is false; all else is true
abbrev pub truth_of : Value → Does Bool
truth_of (IntVal (pos zero)) = give false
truth_of (IntVal (pos (suc n))) = give true
truth_of (IntVal (negsuc n)) = give true
truth_of (BoolVal b) = give b
truth_of NoneVal = give false
truth_of (StrVal t) = give (is_filled t)
truth_of (TupleVal vs) = give true
truth_of (ExcVal e) = give true
truth_of (ObjVal k) = look (λ s. slice_get s.store k) truth_of_object

abbrev pub length_value : ℕ → Value
length_value n = IntVal (pos (counted n))

abbrev pub length_of_object : Option Object → Does Value
length_of_object (Some (ListObj vs)) = give (length_value (length vs))
length_of_object (Some (DictObj ps)) = give (length_value (length ps))
length_of_object (Some (InstObj c vs)) = stop Stuck
length_of_object None = stop Stuck

abbrev pub length_of : Value → Does Value
length_of (StrVal t) = give (length_value (length (chars t)))
length_of (TupleVal vs) = give (length_value (length (listed vs)))
length_of (ObjVal k) = look (λ s. slice_get s.store k) length_of_object
length_of _ = stop Stuck

-- ---- by the type of what is indexed

abbrev pub item_at : Sort → Value → Value → Does Value
item_at (ListOf t) l i = list_item l i
item_at (DictOf k t) d key = dict_item d key
item_at Str s i = letter s i
item_at _ v i = stop Stuck

abbrev pub set_item : Sort → Value → Value → Value → Does (Unit {0})
set_item (ListOf t) l i v = set_list_item l i v
set_item (DictOf k t) d key v = set_dict_item d key v
set_item _ x i v = stop Stuck

-- both operands are there before the first is coerced
abbrev pub compared : (Value → Value → Bool) → Sort → Sort → Value → Value → Does Bool
compared test s t x y = coerced (compared_as s t) x >>= λ a. coerced (compared_as s t) y >>= λ b. needs (are_alike a b) (give (test a b))

abbrev pub found : Sort → Value → Value → Does Bool
found t x d = coerced (key_sort t) x >>= λ key. has_key d key

-- an operand of the first type against one of the second
abbrev pub holds : CmpOp → Sort → Sort → Value → Value → Does Bool
holds compare.Eq s t x y = compared is_equal s t x y
holds compare.Ne s t x y = compared (λ a b. not (is_equal a b)) s t x y
holds compare.Lt s t x y = compared is_less s t x y
holds compare.Le s t x y = compared (λ a b. not (is_less b a)) s t x y
holds compare.Gt s t x y = compared (λ a b. is_less b a) s t x y
holds compare.Ge s t x y = compared (λ a b. not (is_less a b)) s t x y
holds compare.Member s t x y = found t x y
holds compare.NotMember s t x y = found t x y >>= λ b. give (not b)
-- only None stands behind `is`
holds compare.Is s t x y = give (is_none x)
holds compare.IsNot s t x y = give (not (is_none x))

-- ---- input

-- the next line; at the end there is none, and the end stays
abbrev pub next_line : Items → Does Value
next_line item.Eof = raise_new EOFError (codes "EOF when reading a line")
next_line item.Broken = stop Broken
next_line item.Over = stop Over
next_line (item.Line text next) = λ s. Gives (StrVal text) (set_items next s)
next_line (item.Bad next) = λ s. Raises (ExcVal (thrown ValueError (codes "input is not UTF-8"))) (set_items next s)
