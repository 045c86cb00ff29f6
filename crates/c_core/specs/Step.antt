-- One step of the machine: what a line of the C text does to a state. Its tests go from left to right, each on the
-- ledger that those before it left, and a fault leaves the state as it was before the line.
use Rattle.std.specs.Prelude.{ℕ, zero, suc, ◌+◌, ◌/◌, ◌%◌, ◌==◌, Bool, true, false, not, ◌&&◌, ◌||◌, cond, ℤ, pos, negsuc, int_lt, List, [], ◌∷◌, ◌++◌, length, map, take, drop, Option, Some, None, codes, slice_get, slice_set, Result, Ok, Err, is_some}
use Rattle.std.specs.Fmt.{signed_decimal}
use Rattle.std.specs.Option.{option_and_then, option_map}
use Rattle.std.specs.Str.{bytes_eq}
use Rattle.std.specs.Str.Parse.{signed_digits_value}
use Rattle.std.specs.Ordering.{int_eq}
use Rattle.value_core.specs.declared.arith.Arith.{Arith}
use Rattle.value_core.specs.declared.arith.Arith.TheVariants.{Overflow, ZeroDivisor, NegativeShift, OutOfRange}
use Rattle.value_core.specs.declared.exception.ExcClass.{ExcClass}
use Rattle.value_core.specs.declared.exception.ExcClass.TheVariants.{ZeroDivisionError, OverflowError, IndexError, KeyError, NameError, UnboundLocalError, ValueError, AttributeError, RuntimeError, EOFError}
use Rattle.value_core.specs.Characters.{place_of}
use Rattle.value_core.specs.Arithmetic.{is_short, int_add, int_sub, int_mul, int_neg, int_floor_div, int_modulo, int_shl, int_shr, int_to_i64, i64_add, i64_sub, i64_mul, i64_neg, i64_floor_div, i64_modulo, i64_shl, i64_shr}
use Rattle.value_core.specs.Exceptions.{Thrown, thrown, class_named, is_under}
use Rattle.value_core.specs.Ending.{Ending, Done, Raised, Cut, Over, Broken}
use Rattle.value_core.specs.Items as item
use Rattle.value_core.specs.Items.{Items}
use Rattle.c_core.specs.declared.code.Kind.{Kind}
use Rattle.c_core.specs.declared.code.Kind.TheVariants.{Tagged, Int64, Char, Object}
use Rattle.c_core.specs.declared.code.CLit.{CLit}
use Rattle.c_core.specs.declared.code.CLit.TheVariants.{Number, Null, PyNone, PyTrue, PyFalse}
use Rattle.c_core.specs.declared.code.CArg.{CArg}
use Rattle.c_core.specs.declared.code.CArg.TheVariants as arg
use Rattle.c_core.specs.declared.code.Line.{Line}
use Rattle.c_core.specs.declared.code.Line.TheVariants.{Label, Move, Lit, Call, Virtual, TraitCall, Goto, If, IfError, Turn, Return, Inc, Dec, XDec}
use Rattle.c_core.specs.declared.code.CClass.{CClass}
use Rattle.c_core.specs.declared.code.CFunc.{CFunc}
use Rattle.c_core.specs.declared.code.Code.{Code}
use Rattle.c_core.specs.declared.fault.Fault.{Fault}
use Rattle.c_core.specs.declared.fault.Fault.TheVariants as fault
use Rattle.c_core.specs.declared.primitive.Primitive.{Primitive}
use Rattle.c_core.specs.declared.primitive.Primitive.TheVariants as prim
use Rattle.c_core.specs.declared.primitive.Int64Prim.TheVariants as int64
use Rattle.c_core.specs.declared.primitive.TaggedPrim.TheVariants as tagged
use Rattle.c_core.specs.declared.primitive.BoolPrim.TheVariants as bool
use Rattle.c_core.specs.declared.primitive.ObjectPrim.TheVariants as object
use Rattle.c_core.specs.declared.primitive.StrPrim.TheVariants as str
use Rattle.c_core.specs.declared.primitive.ListPrim.TheVariants as list
use Rattle.c_core.specs.declared.primitive.DictPrim.TheVariants as dict
use Rattle.c_core.specs.declared.primitive.TuplePrim.TheVariants as tuple
use Rattle.c_core.specs.declared.primitive.InstancePrim.TheVariants as instance
use Rattle.c_core.specs.declared.primitive.AttrPrim.TheVariants as attr
use Rattle.c_core.specs.declared.primitive.GlobalPrim.TheVariants as global
use Rattle.c_core.specs.declared.primitive.ExcPrim.TheVariants as exc
use Rattle.c_core.specs.declared.primitive.ErrPrim.TheVariants as err
use Rattle.c_core.specs.declared.primitive.IoPrim.TheVariants as io
use Rattle.c_core.specs.Cells.{Cells, times, content_at, take_one, refill, make}
use Rattle.c_core.specs.Ledgers.{Ledger, more, more_of, without}
use Rattle.c_core.specs.Release.{release}
use Rattle.c_core.specs.Machine.{Word, ShortInt, BigInt, TaggedError, Native, CharWord, ObjectCell, NoneObject, TrueObject, FalseObject, NoObject, Content, IntCell, StrCell, ListCell, DictCell, TupleCell, InstCell, ExcCell, refs_of, set_refs, refs_in, noted, Frame, MachineState}
use Rattle.c_core.specs.Functions.{label_places, function_named, number_of, method_at, trait_method_at, has_kind, kinds_agree, parameter_kinds, error_word, entry_words}
use Rattle.c_core.specs.Keys.{Key, key_place, key_text}
use Rattle.c_core.specs.Primitives.{KindAt, OfSlot, Holding, AnInstance, Parameter, Borrows, Steals, MaySteal, TakesNumber, TakesPlace, TakesText, TakesDecimal, TakesException, TakesGlobal, TakesClass, Outcome, Nothing, Owned, Lent, may_end, row_of, primitive_named}
use Rattle.c_core.specs.Arguments.{Argument, Cell, Plain, Written, is_value_of, is_holding, int_in, key_as, kind_of_global, number_of_global, number_of_class, kind_of_slot, kind_found, word_in, words_in, stolen}
use Rattle.c_core.specs.Strings.{counted_length, text_less, text_length, text_item, writes_long}

-- how a run of the machine ends: as a program of the source does, or by a fault
pub data MachineEnding : Type 0 where
  Ended : (e : Ending) → MachineEnding
  Faulted : (f : Fault) → MachineEnding

-- what a step leads to
pub data Next : Type 0 where
  Goes : (s : MachineState) → Next
  Ends : (e : MachineEnding) (s : MachineState) → Next

-- parts of a state
abbrev pub with_cells : Cells Content → MachineState → MachineState
with_cells cells s = record s { cells = cells }

abbrev pub with_ledger : Ledger → MachineState → MachineState
with_ledger l s = record s { top = record s.top { ledger = l } }

abbrev pub with_var : ℕ → Word → MachineState → MachineState
with_var x w s = record s { top = record s.top { vars = slice_set s.top.vars x w } }

abbrev pub with_target : Option ℕ → Word → MachineState → MachineState
with_target None w s = s
with_target (Some x) w s = with_var x w s

abbrev pub at_place : ℕ → MachineState → MachineState
at_place p s = record s { top = record s.top { place = p } }

abbrev pub next_line : MachineState → MachineState
next_line s = at_place (s.top.place + 1) s

abbrev pub with_items : Items → MachineState → MachineState
with_items items s = record s { items = items }

-- the frame owns one reference to c more
abbrev pub own : ℕ → MachineState → MachineState
own c s = with_ledger (more c s.top.ledger) s

-- a reference is taken, and the frame owns it
abbrev pub took : ℕ → MachineState → MachineState
took c s = own c (with_cells (take_one c s.cells) s)

-- the reference of a word is taken, if it has one
abbrev pub shared : Word → MachineState → MachineState
shared (BigInt c) s = took c s
shared (ObjectCell c) s = took c s
shared w s = s

-- a new exception is pending
abbrev pub raise : Thrown → MachineState → MachineState
raise e s = record s { cells = make (ExcCell e) s.cells; pending = Some (length s.cells) }

-- the word of a literal in a variable of this kind; the number of a tagged `int` is twice its value, or 1
abbrev pub halved : ℤ → Option Word
halved (pos n) = cond (n % 2 == 0) (Some (ShortInt (pos (n / 2)))) (cond (n == 1) (Some TaggedError) None)
halved (negsuc n) = cond (n % 2 == 1) (Some (ShortInt (negsuc (n / 2)))) None

abbrev pub char_word : ℤ → Option Word
char_word (pos zero) = Some (CharWord 0)
char_word (pos (suc zero)) = Some (CharWord 1)
char_word (pos (suc (suc zero))) = Some (CharWord 2)
char_word (pos (suc (suc (suc n)))) = None
char_word (negsuc n) = None

abbrev pub literal_word : Kind → CLit → Option Word
literal_word Tagged (Number n) = halved n
literal_word Int64 (Number n) = Some (Native n)
literal_word Char (Number n) = char_word n
literal_word Object Null = Some NoObject
literal_word Object PyNone = Some NoneObject
literal_word Object PyTrue = Some TrueObject
literal_word Object PyFalse = Some FalseObject
literal_word _ _ = None

-- whether a word is the error value of its kind, and of that kind alone
abbrev pub is_error : Word → Bool
is_error TaggedError = true
is_error (CharWord n) = n == 2
is_error NoObject = true
is_error _ = false

-- the native integer -113 is an error value and an ordinary one too
abbrev pub is_both : Word → Bool
is_both (Native (negsuc n)) = n == 112
is_both _ = false

-- whether a word equals the error value of its kind
abbrev pub equals_error : Word → Bool
equals_error w = is_error w || is_both w

-- ---- primitives
-- What a primitive does. It was called wrongly. It answers a word that has no cell, or one whose cell is there and gets one more
-- reference, and what was stolen is given up. It answers a word whose reference stays where it is. It makes a cell, whose content takes over what was stolen. It gives a cell another
-- content, which takes over what was stolen, and answers a word, whose reference, if it has one, was the old content's and goes to
-- the frame; other references that the old content held are given up after the write. It writes to the output. A global that held one thing gets
-- another, which is what was stolen, or nothing, and the thing that it held is given up. It fails: a new exception is pending, and the
-- answer is an error value. The exception that was stolen is pending. The exception that was pending is answered, and none is pending.
-- It makes a cell of a number, which an `int` is to refer to. It reads a line of input, and makes a cell of its text. It passes over a
-- line of input, and fails. The run ends.
pub data Effect : Type 0 where
  Wrong : Effect
  Says : (w : Word) → Effect
  Shares : (w : Word) → Effect
  Lends : (w : Word) → Effect
  Makes : (content : Content) → Effect
  Changes : (c : ℕ) (content : Content) (w : Word) (old : List ℕ) → Effect
  Writes : (text : List ℕ) → Effect
  Stores : (n : ℕ) (old new : Option Word) → Effect
  Fails : (w : Word) (e : Thrown) → Effect
  Pends : (c : ℕ) → Effect
  Catches : (c : ℕ) → Effect
  MakesInt : (n : ℤ) → Effect
  Reads : (text : List ℕ) (next : Items) → Effect
  Skips : (next : Items) (w : Word) (e : Thrown) → Effect
  Stops : (e : Ending) → Effect

-- a truth as a `char`, as an object, and as a text
abbrev pub truth_word : Bool → Word
truth_word true = CharWord 1
truth_word false = CharWord 0

abbrev pub truth_object : ℕ → Word
truth_object zero = FalseObject
truth_object (suc n) = TrueObject

abbrev pub truth_text : ℕ → List ℕ
truth_text zero = codes "False"
truth_text (suc n) = codes "True"

-- why an operation has no result (Python Library Reference, "Concrete exceptions"): of an overflow it is said past which range the result
-- lies
abbrev pub exception_past : List ℕ → Arith → Thrown
exception_past past Overflow = thrown OverflowError past
exception_past past ZeroDivisor = thrown ZeroDivisionError (codes "integer division or modulo by zero")
exception_past past NegativeShift = thrown ValueError (codes "negative shift count")
exception_past past OutOfRange = thrown ValueError (codes "shift count out of range")

abbrev pub int64_exception : Arith → Thrown
int64_exception f = exception_past (codes "integer does not fit in i64") f

abbrev pub int_exception : Arith → Thrown
int_exception f = exception_past (codes "integer is past 128 bits") f

abbrev pub native_or : Result ℤ Arith → Effect
native_or (Ok n) = Says (Native n)
native_or (Err f) = Fails (error_word Int64) (int64_exception f)

-- a number as an `int`: a short word where it is short, and else a new cell
abbrev pub tagged_effect : ℤ → Effect
tagged_effect n = cond (is_short n) (Says (ShortInt n)) (MakesInt n)

abbrev pub tagged_or : Result ℤ Arith → Effect
tagged_or (Ok n) = tagged_effect n
tagged_or (Err f) = Fails (error_word Tagged) (int_exception f)

-- an `int` as a native integer, where it fits
abbrev pub fitted : Result ℤ Arith → Effect
fitted (Ok n) = Says (Native n)
fitted (Err f) = Fails (error_word Int64) (int64_exception Overflow)

-- a text that writes this number as it is printed, which is no short one and has a cell
abbrev pub written_int : List ℕ → ℤ → Effect
written_int text n = cond (writes_long text n) (MakesInt n) Wrong

-- what is done with one `int`, and with two
abbrev pub of_int : (ℤ → Effect) → Option ℤ → Effect
of_int f None = Wrong
of_int f (Some n) = f n

abbrev pub of_ints : (ℤ → ℤ → Effect) → Option ℤ → Option ℤ → Effect
of_ints f a b = of_int (λ m. of_int (f m) b) a

-- a number that stands in a cell, as an `int`; and a number as a native integer, which has to fit
abbrev pub unboxed : ℕ → ℤ → Effect
unboxed c n = cond (is_short n) (Says (ShortInt n)) (Shares (BigInt c))

abbrev pub native_in : Result ℤ Arith → Effect
native_in (Ok n) = Says (Native n)
native_in (Err f) = Wrong

-- what is done with a word
abbrev pub of_word : (Word → Effect) → Option Word → Effect
of_word f None = Wrong
of_word f (Some w) = f w

-- the item of a list at the place of an index; another one is put there; the last one is taken out
abbrev pub item_at : Option ℕ → List Word → Effect
item_at None items = Fails (error_word Object) (thrown IndexError (codes "list index out of range"))
item_at (Some i) items = of_word Shares (slice_get items i)

abbrev pub put_at : ℕ → Option ℕ → List Word → Word → Effect
put_at c None items w = Fails (error_word Char) (thrown IndexError (codes "list assignment index out of range"))
put_at c (Some i) items w =
    of_word (λ old. Changes c (ListCell (slice_set items i w)) (CharWord 1) (refs_of old)) (slice_get items i)

abbrev pub popped : ℕ → Option ℕ → List Word → Effect
popped c None items = Fails (error_word Object) (thrown IndexError (codes "pop from empty list"))
popped c (Some i) items = of_word (λ w. Changes c (ListCell (take i items)) w []) (slice_get items i)

-- what is read is lent, and gets no more references
abbrev pub lent : Effect → Effect
lent (Shares w) = Lends w
lent e = e

-- what is done with a key, and with a pair of a dict
abbrev pub of_key : (Key → Effect) → Option Key → Effect
of_key f None = Wrong
of_key f (Some k) = f k

abbrev pub of_pair : (Word × Word → Effect) → Option (Word × Word) → Effect
of_pair f None = Wrong
of_pair f (Some p) = f p

-- at the place of a key in a dict, if it has one: the value is read; another value is put there, or a new pair behind the others; the
-- pair is taken out. A key that is there stays, and the equal one that came is given up
abbrev pub missing : Key → Thrown
missing k = thrown KeyError (key_text k)

abbrev pub value_at : Key → Option ℕ → List (Word × Word) → Effect
value_at k None pairs = Fails (error_word Object) (missing k)
value_at k (Some i) pairs = of_pair (λ p. Shares p.1) (slice_get pairs i)

abbrev pub entry_set : ℕ → Option ℕ → List (Word × Word) → Word → Word → Effect
entry_set c None pairs key w = Changes c (DictCell (pairs ++ (key, w) ∷ [])) NoneObject []
entry_set c (Some i) pairs key w =
    of_pair (λ p. Changes c (DictCell (slice_set pairs i (p.0, w))) NoneObject (refs_of key ++ refs_of p.1)) (slice_get pairs i)

abbrev pub entry_cut : ℕ → Key → Option ℕ → List (Word × Word) → Effect
entry_cut c k None pairs = Fails (error_word Char) (missing k)
entry_cut c k (Some i) pairs =
    of_pair (λ p. Changes c (DictCell (take i pairs ++ drop (i + 1) pairs)) (CharWord 1) (refs_of p.0 ++ refs_of p.1)) (slice_get pairs i)

-- whether a dict has as many pairs as before, and the key at a place
abbrev pub sized : Bool → Effect
sized true = Says (CharWord 1)
sized false = Fails (error_word Char) (thrown RuntimeError (codes "dictionary changed size during iteration"))

abbrev pub key_at : List (Word × Word) → ℤ → Effect
key_at pairs (pos i) = of_pair (λ p. Shares p.0) (slice_get pairs i)
key_at pairs (negsuc i) = Wrong

-- a new instance of the class of a number, with all attributes unset
abbrev pub instance_of : Option ℕ → Option CClass → Effect
instance_of (Some n) (Some k) = Makes (InstCell n (map (λ a. None) k.attrs))
instance_of n k = Wrong

-- the attribute of a number, which is unset or holds a word
abbrev pub attribute_at : List (Option Word) → ℤ → Option (Option Word)
attribute_at attributes (pos i) = slice_get attributes i
attribute_at attributes (negsuc i) = None

abbrev pub undefined : List ℕ → List ℕ → Thrown
undefined name class =
    thrown AttributeError (codes "attribute '" ++ (name ++ (codes "' of '" ++ (class ++ codes "' undefined"))))

-- the slot of a class by its number, with its name and its kind
abbrev pub slot_of : CClass → ℤ → Option (List ℕ × Kind)
slot_of k (pos i) = slice_get k.attrs i
slot_of k (negsuc i) = None

-- a read of a slot of the class of a name, which holds this
abbrev pub slot_got : List ℕ → Option (List ℕ × Kind) → Option (Option Word) → Effect
slot_got class (Some a) (Some (Some w)) = Shares w
slot_got class (Some a) (Some None) = Fails (error_word a.1) (undefined a.0 class)
slot_got class a o = Wrong

abbrev pub attribute_got : Option CClass → ℤ → Option (Option Word) → Effect
attribute_got None n o = Wrong
attribute_got (Some k) n o = slot_got k.name (slot_of k n) o

-- a write of an attribute
abbrev pub slot_set : ℕ → ℕ → ℕ → List (Option Word) → Word → Option (Option Word) → Effect
slot_set c class i attributes w None = Wrong
slot_set c class i attributes w (Some old) =
    Changes c (InstCell class (slice_set attributes i (Some w))) NoneObject (set_refs (old ∷ []))

abbrev pub attribute_set : ℕ → ℕ → ℤ → List (Option Word) → Word → Effect
attribute_set c class (pos i) attributes w = slot_set c class i attributes w (slice_get attributes i)
attribute_set c class (negsuc i) attributes w = Wrong

-- what is done with some words
abbrev pub of_words : (List Word → Effect) → Option (List Word) → Effect
of_words f None = Wrong
of_words f (Some ws) = f ws

-- the part of a tuple
abbrev pub part_at : List Word → ℤ → Effect
part_at items (pos i) = of_word Shares (slice_get items i)
part_at items (negsuc i) = Wrong

-- the item of a text
abbrev pub item_or : Option (List ℕ) → Effect
item_or None = Fails (error_word Object) (thrown IndexError (codes "string index out of range"))
item_or (Some text) = Makes (StrCell text)

-- the next line of input; at its end there is none, and the end stays
abbrev pub line_read : Items → Effect
line_read item.Eof = Fails (error_word Object) (thrown EOFError (codes "EOF when reading a line"))
line_read item.Broken = Stops Broken
line_read item.Over = Stops Over
line_read (item.Line text next) = Reads text next
line_read (item.Bad next) = Skips next (error_word Object) (thrown ValueError (codes "input is not UTF-8"))

-- what a global holds: nothing where there is none of the name, and nothing inside where it is unset
abbrev pub global_at : Code → MachineState → List ℕ → Option (Option Word)
global_at code s name = option_and_then (slice_get s.globals) (number_of_global code name)

abbrev pub not_defined : List ℕ → Thrown
not_defined name = thrown NameError (codes "name '" ++ name ++ codes "' is not defined")

abbrev pub unbound : List ℕ → Thrown
unbound name = thrown UnboundLocalError (codes "local variable '" ++ name ++ codes "' referenced before assignment")

-- a read of a global of a name and a kind, which holds this
abbrev pub got : List ℕ → Option Kind → Option (Option Word) → Effect
got name (Some k) (Some (Some w)) = Shares w
got name (Some k) (Some None) = Fails (error_word k) (not_defined name)
got name k o = Wrong

-- a write of the global of a number, which holds this
abbrev pub stored : Option ℕ → Option (Option Word) → Option Word → Effect
stored (Some n) (Some old) new = Stores n old new
stored n old new = Wrong

abbrev pub set_to : Option ℕ → Option (Option Word) → Option Word → Effect
set_to n old None = Wrong
set_to n old (Some w) = stored n old (Some w)

abbrev pub made_exception : Option ExcClass → List ℕ → Effect
made_exception None text = Wrong
made_exception (Some class) text = Makes (ExcCell (thrown class text))

-- the exception that is pending
abbrev pub exception_in : Content → Option Thrown
exception_in (ExcCell e) = Some e
exception_in _ = None

abbrev pub pending_exception : MachineState → Option Thrown
pending_exception s = option_and_then exception_in (option_and_then (content_at s.cells) s.pending)

abbrev pub matched : Option ExcClass → Option Thrown → Effect
matched (Some class) (Some e) = Says (truth_word (is_under e.class class))
matched class e = Wrong

abbrev pub caught : Option ℕ → Effect
caught None = Wrong
caught (Some c) = Catches c

abbrev pub effect : Code → MachineState → Primitive → List Argument → Effect
effect code s (prim.Int64 int64.Add) (Plain (Native a) ∷ Plain (Native b) ∷ []) = Says (Native (i64_add a b))
effect code s (prim.Int64 int64.Subtract) (Plain (Native a) ∷ Plain (Native b) ∷ []) = Says (Native (i64_sub a b))
effect code s (prim.Int64 int64.Multiply) (Plain (Native a) ∷ Plain (Native b) ∷ []) = Says (Native (i64_mul a b))
effect code s (prim.Int64 int64.Negate) (Plain (Native a) ∷ []) = Says (Native (i64_neg a))
effect code s (prim.Int64 int64.FloorDivide) (Plain (Native a) ∷ Plain (Native b) ∷ []) = native_or (i64_floor_div a b)
effect code s (prim.Int64 int64.Remainder) (Plain (Native a) ∷ Plain (Native b) ∷ []) = native_or (i64_modulo a b)
effect code s (prim.Int64 int64.Lshift) (Plain (Native a) ∷ Plain (Native b) ∷ []) = native_or (i64_shl a b)
effect code s (prim.Int64 int64.Rshift) (Plain (Native a) ∷ Plain (Native b) ∷ []) = native_or (i64_shr a b)
effect code s (prim.Int64 int64.FromBool) (Plain (CharWord n) ∷ []) = Says (Native (pos n))
effect code s (prim.Int64 int64.Eq) (Plain (Native a) ∷ Plain (Native b) ∷ []) = Says (truth_word (int_eq a b))
effect code s (prim.Int64 int64.Lt) (Plain (Native a) ∷ Plain (Native b) ∷ []) = Says (truth_word (int_lt a b))
effect code s (prim.Int64 int64.Le) (Plain (Native a) ∷ Plain (Native b) ∷ []) = Says (truth_word (not (int_lt b a)))
effect code s (prim.Int64 int64.Str) (Plain (Native a) ∷ []) = Makes (StrCell (signed_decimal a))
effect code s (prim.Int64 int64.Box) (Plain (Native a) ∷ []) = Makes (IntCell a)
effect code s (prim.Int64 int64.Unbox) (Cell c (IntCell n) ∷ []) = native_in (int_to_i64 n)
effect code s (prim.Tagged tagged.Add) (a ∷ b ∷ []) = of_ints (λ m n. tagged_or (int_add m n)) (int_in a) (int_in b)
effect code s (prim.Tagged tagged.Subtract) (a ∷ b ∷ []) = of_ints (λ m n. tagged_or (int_sub m n)) (int_in a) (int_in b)
effect code s (prim.Tagged tagged.Multiply) (a ∷ b ∷ []) = of_ints (λ m n. tagged_or (int_mul m n)) (int_in a) (int_in b)
effect code s (prim.Tagged tagged.Negate) (a ∷ []) = of_int (λ n. tagged_or (int_neg n)) (int_in a)
effect code s (prim.Tagged tagged.FloorDivide) (a ∷ b ∷ []) = of_ints (λ m n. tagged_or (int_floor_div m n)) (int_in a) (int_in b)
effect code s (prim.Tagged tagged.Remainder) (a ∷ b ∷ []) = of_ints (λ m n. tagged_or (int_modulo m n)) (int_in a) (int_in b)
effect code s (prim.Tagged tagged.Lshift) (a ∷ b ∷ []) = of_ints (λ m n. tagged_or (int_shl m n)) (int_in a) (int_in b)
effect code s (prim.Tagged tagged.Rshift) (a ∷ b ∷ []) = of_ints (λ m n. tagged_or (int_shr m n)) (int_in a) (int_in b)
effect code s (prim.Tagged tagged.FromText) (Written (arg.Text text) ∷ []) = written_int text (signed_digits_value 10 text)
effect code s (prim.Tagged tagged.FromInt64) (Plain (Native n) ∷ []) = tagged_effect n
effect code s (prim.Tagged tagged.FromBool) (Plain (CharWord n) ∷ []) = tagged_effect (pos n)
effect code s (prim.Tagged tagged.AsInt64) (a ∷ []) = of_int (λ n. fitted (int_to_i64 n)) (int_in a)
effect code s (prim.Tagged tagged.Eq) (a ∷ b ∷ []) = of_ints (λ m n. Says (truth_word (int_eq m n))) (int_in a) (int_in b)
effect code s (prim.Tagged tagged.Lt) (a ∷ b ∷ []) = of_ints (λ m n. Says (truth_word (int_lt m n))) (int_in a) (int_in b)
effect code s (prim.Tagged tagged.Le) (a ∷ b ∷ []) = of_ints (λ m n. Says (truth_word (not (int_lt n m)))) (int_in a) (int_in b)
effect code s (prim.Tagged tagged.Str) (a ∷ []) = of_int (λ n. Makes (StrCell (signed_decimal n))) (int_in a)
effect code s (prim.Tagged tagged.Box) (Plain (ShortInt n) ∷ []) = Makes (IntCell n)
effect code s (prim.Tagged tagged.Box) (Cell c (IntCell n) ∷ []) = Shares (ObjectCell c)
effect code s (prim.Tagged tagged.Unbox) (Cell c (IntCell n) ∷ []) = unboxed c n
effect code s (prim.Bool bool.Not) (Plain (CharWord n) ∷ []) = Says (truth_word (n == 0))
effect code s (prim.Bool bool.Str) (Plain (CharWord n) ∷ []) = Makes (StrCell (truth_text n))
effect code s (prim.Bool bool.Box) (Plain (CharWord n) ∷ []) = Says (truth_object n)
effect code s (prim.Bool bool.Unbox) (Plain TrueObject ∷ []) = Says (CharWord 1)
effect code s (prim.Bool bool.Unbox) (Plain FalseObject ∷ []) = Says (CharWord 0)
effect code s (prim.Object object.IsNone) (Plain NoneObject ∷ []) = Says (CharWord 1)
effect code s (prim.Object object.IsNone) (a ∷ []) = Says (CharWord 0)
effect code s (prim.Str str.Literal) (Written (arg.Text text) ∷ []) = Makes (StrCell text)
effect code s (prim.Str str.Concat) (Cell c (StrCell a) ∷ Cell d (StrCell b) ∷ []) = Makes (StrCell (a ++ b))
effect code s (prim.Str str.Eq) (Cell c (StrCell a) ∷ Cell d (StrCell b) ∷ []) = Says (truth_word (bytes_eq a b))
effect code s (prim.Str str.Lt) (Cell c (StrCell a) ∷ Cell d (StrCell b) ∷ []) = Says (truth_word (text_less a b))
effect code s (prim.Str str.Le) (Cell c (StrCell a) ∷ Cell d (StrCell b) ∷ []) = Says (truth_word (not (text_less b a)))
effect code s (prim.Str str.Len) (Cell c (StrCell text) ∷ []) = tagged_effect (text_length text)
effect code s (prim.Str str.GetItem) (Cell c (StrCell text) ∷ a ∷ []) = of_int (λ i. item_or (text_item text i)) (int_in a)
effect code s (prim.List list.New) [] = Makes (ListCell [])
-- (a row without a result: the word that it answers goes nowhere)
effect code s (prim.List list.Append) (Cell c (ListCell items) ∷ a ∷ []) =
    of_word (λ w. Changes c (ListCell (items ++ w ∷ [])) NoneObject []) (word_in Object a)
effect code s (prim.List list.GetItem) (Cell c (ListCell items) ∷ a ∷ []) =
    of_int (λ i. item_at (place_of (length items) i) items) (int_in a)
effect code s (prim.List list.GetItemBorrow) (Cell c (ListCell items) ∷ a ∷ []) =
    of_int (λ i. lent (item_at (place_of (length items) i) items)) (int_in a)
effect code s (prim.List list.SetItem) (Cell c (ListCell items) ∷ a ∷ b ∷ []) =
    of_int (λ i. of_word (put_at c (place_of (length items) i) items) (word_in Object b)) (int_in a)
effect code s (prim.List list.Pop) (Cell c (ListCell items) ∷ []) = popped c (place_of (length items) (negsuc 0)) items
effect code s (prim.List list.Len) (Cell c (ListCell items) ∷ []) = tagged_effect (pos (counted_length (length items)))
effect code s (prim.Dict dict.New) [] = Makes (DictCell [])
effect code s (prim.Dict dict.GetItem) (Cell c (DictCell pairs) ∷ a ∷ []) = of_key (λ k. value_at k (key_place s.cells k pairs) pairs) (key_as a)
effect code s (prim.Dict dict.SetItem) (Cell c (DictCell pairs) ∷ a ∷ b ∷ []) =
    of_key (λ k. of_word (λ key. of_word (entry_set c (key_place s.cells k pairs) pairs key) (word_in Object b)) (word_in Object a)) (key_as a)
effect code s (prim.Dict dict.DelItem) (Cell c (DictCell pairs) ∷ a ∷ []) =
    of_key (λ k. entry_cut c k (key_place s.cells k pairs) pairs) (key_as a)
effect code s (prim.Dict dict.Contains) (Cell c (DictCell pairs) ∷ a ∷ []) =
    of_key (λ k. Says (truth_word (is_some (key_place s.cells k pairs)))) (key_as a)
effect code s (prim.Dict dict.CheckSize) (Cell c (DictCell pairs) ∷ a ∷ []) =
    of_int (λ n. sized (int_eq (pos (counted_length (length pairs))) n)) (int_in a)
effect code s (prim.Dict dict.KeyAt) (Cell c (DictCell pairs) ∷ a ∷ []) = of_int (key_at pairs) (int_in a)
effect code s (prim.Dict dict.Len) (Cell c (DictCell pairs) ∷ []) = tagged_effect (pos (counted_length (length pairs)))
effect code s (prim.Tuple tuple.Pack) all = of_words (λ ws. Makes (TupleCell ws)) (words_in all)
effect code s (prim.Tuple tuple.GetItem) (Cell c (TupleCell items) ∷ Written (arg.Number n) ∷ []) = part_at items n
effect code s (prim.Tuple tuple.GetItemBorrow) (Cell c (TupleCell items) ∷ Written (arg.Number n) ∷ []) = lent (part_at items n)
effect code s (prim.Tuple tuple.Len) (Cell c (TupleCell items) ∷ []) = tagged_effect (pos (counted_length (length items)))
effect code s (prim.Instance instance.New) (Written (arg.Class name) ∷ []) =
    instance_of (number_of_class code name) (option_and_then (slice_get code.classes) (number_of_class code name))
effect code s (prim.Attr attr.Get) (Cell c (InstCell class attributes) ∷ Written (arg.Number n) ∷ []) =
    attribute_got (slice_get code.classes class) n (attribute_at attributes n)
effect code s (prim.Attr attr.GetBorrow) (Cell c (InstCell class attributes) ∷ Written (arg.Number n) ∷ []) =
    lent (attribute_got (slice_get code.classes class) n (attribute_at attributes n))
effect code s (prim.Attr attr.Set) (Cell c (InstCell class attributes) ∷ Written (arg.Number n) ∷ a ∷ []) =
    of_word (attribute_set c class n attributes) (option_and_then (λ k. word_in k a) (kind_of_slot code class n))
effect code s (prim.Global global.Get) (Written (arg.Global name) ∷ []) =
    got name (kind_of_global code name) (global_at code s name)
effect code s (prim.Global global.Set) (Written (arg.Global name) ∷ a ∷ []) =
    set_to (number_of_global code name) (global_at code s name) (option_and_then (λ k. word_in k a) (kind_of_global code name))
effect code s (prim.Global global.Clear) (Written (arg.Global name) ∷ []) =
    stored (number_of_global code name) (global_at code s name) None
effect code s (prim.Exc exc.New) (Written (arg.Text name) ∷ Cell c (StrCell text) ∷ []) = made_exception (class_named name) text
effect code s (prim.Exc exc.Str) (Cell c (ExcCell e) ∷ []) = Makes (StrCell e.text)
effect code s (prim.Err err.SetObject) (Cell c (ExcCell e) ∷ []) = Pends c
effect code s (prim.Err err.Unbound) (Written (arg.Text name) ∷ []) = Fails NoObject (unbound name)
effect code s (prim.Err err.Occurred) [] = Says (truth_word (is_some s.pending))
effect code s (prim.Err err.Matches) (Written (arg.Text name) ∷ []) = matched (class_named name) (pending_exception s)
effect code s (prim.Err err.Catch) [] = caught s.pending
effect code s (prim.Io io.Write) (Cell c (StrCell text) ∷ []) = Writes text
effect code s (prim.Io io.Input) [] = line_read s.items
effect code s _ _ = Wrong

-- ---- what a frame runs
-- the function that a frame runs, the kind of a variable, the line that comes next, and the place of a label
abbrev pub function_of : Code → Frame → Option CFunc
function_of code f = slice_get code.funcs f.func

abbrev pub kind_of : Code → Frame → ℕ → Option Kind
kind_of code f x = option_and_then (λ g. option_map (λ v. v.1) (slice_get g.vars x)) (function_of code f)

-- the kind of a slot is that of the variable into which it is read; of other answers this is known from the text
abbrev pub slot_fits : Code → Frame → KindAt → Option ℕ → List Argument → Bool
slot_fits code f OfSlot (Some x) all = kinds_agree (kind_found code OfSlot all) (kind_of code f x)
slot_fits code f k x all = true

abbrev pub answer_fits : Code → Frame → Outcome → Option ℕ → List Argument → Bool
answer_fits code f Nothing x all = true
answer_fits code f (Owned k) x all = slot_fits code f k x all
answer_fits code f (Lent k) x all = slot_fits code f k x all

-- the number of the function that an object's class has for a method
abbrev pub method_of : Code → (CClass → Option (List ℕ)) → Argument → Option ℕ
method_of code entry (Cell c (InstCell class attributes)) =
    option_and_then (number_of code.funcs) (option_and_then entry (slice_get code.classes class))
method_of code entry _ = None

abbrev pub line_at : Code → Frame → Option Line
line_at code f = option_and_then (λ g. slice_get g.lines f.place) (function_of code f)

abbrev pub label_at : Code → Frame → ℕ → Option ℕ
label_at code f n = option_and_then (λ g. slice_get (label_places g.lines) n) (function_of code f)

-- ---- tests
-- the tests, which fault at the state that the line began with. An unchecked run makes no test of ownership, and in it
-- no cell ever goes
module _ (is_checked : Bool) (s : MachineState) where
  abbrev pub faulted : Fault → Next
  faulted f = Ends (Faulted f) s

  abbrev pub if_some : {A : Type 0} → Fault → Option A → (A → Next) → Next
  if_some f None go = faulted f
  if_some f (Some a) go = go a

  -- no exception is pending
  abbrev pub if_calm : Option ℕ → Next → Next
  if_calm None go = go
  if_calm (Some c) go = faulted fault.Kind

  abbrev pub if_content : ℕ → (Content → Next) → Next
  if_content c go = if_some fault.Dead (content_at s.cells c) go

  -- a reference leaves a ledger, in which it is to stand
  abbrev pub if_any : ℕ → Next → Next
  if_any zero go = faulted fault.NotOwned
  if_any (suc n) go = go

  abbrev pub if_taken : ℕ → Ledger → (Ledger → Next) → Next
  if_taken c l go = cond is_checked (if_any (times l c) (go (without c l))) (go (without c l))

  abbrev pub given : List ℕ → MachineState → MachineState
  given refs t = cond is_checked (with_cells (release refs_in t.cells refs) t) t

  abbrev pub word_of : ℕ → (Word → Next) → Next
  word_of x go = if_some fault.Kind (slice_get s.top.vars x) go

  abbrev pub if_true : Bool → Next → Next
  if_true b go = cond b go (faulted fault.Kind)

  -- the cell of a word is there, if it has one
  abbrev pub if_there : Word → (Argument → Next) → Next
  if_there (BigInt c) go = if_content c (λ content. go (Cell c content))
  if_there (ObjectCell c) go = if_content c (λ content. go (Cell c content))
  if_there w go = go (Plain w)

  -- a variable of a kind, which holds what is asked for
  abbrev pub if_variable : Kind → Holding → ℕ → (Argument → Next) → Next
  if_variable k h x go =
      word_of x (λ w. if_true (is_value_of k w) (if_there w (λ a. if_true (is_holding h a) (go a))))

  -- a stolen cell leaves the ledger
  abbrev pub if_stolen : Argument → Ledger → (Ledger → Next) → Next
  if_stolen (Cell c content) l go = if_taken c l go
  if_stolen a l go = go l

  -- an argument, behind those that were tested before it, and the ledger that is left
  abbrev pub if_argument : Code → Parameter → CArg → List Argument → Ledger → (Argument → Ledger → Next) → Next
  if_argument code (Borrows k h) (arg.Var x) earlier l go =
      if_some fault.Kind (kind_found code k earlier) (λ kind. if_variable kind h x (λ a. go a l))
  if_argument code (Steals k h) (arg.Var x) earlier l go =
      if_some fault.Kind (kind_found code k earlier) (λ kind. if_variable kind h x (λ a. if_stolen a l (go a)))
  if_argument code (MaySteal k h) (arg.Var x) earlier l go =
      if_some fault.Kind (kind_found code k earlier) (λ kind. if_variable kind h x (λ a. if_stolen a l (go a)))
  if_argument code TakesNumber (arg.Number n) earlier l go = go (Written (arg.Number n)) l
  if_argument code TakesPlace (arg.Number n) earlier l go = go (Written (arg.Number n)) l
  if_argument code TakesText (arg.Text text) earlier l go = go (Written (arg.Text text)) l
  if_argument code TakesDecimal (arg.Text text) earlier l go = go (Written (arg.Text text)) l
  if_argument code TakesException (arg.Text text) earlier l go = go (Written (arg.Text text)) l
  if_argument code TakesGlobal (arg.Global name) earlier l go = go (Written (arg.Global name)) l
  if_argument code TakesClass (arg.Class name) earlier l go = go (Written (arg.Class name)) l
  if_argument code _ _ earlier l go = faulted fault.Kind

  -- the arguments from left to right: each is tested whole before the next one is looked at
  abbrev pub if_arguments : Code → List Parameter → List CArg → List Argument → Ledger → (List Argument → Ledger → Next) → Next
  if_arguments code [] [] earlier l go = go [] l
  if_arguments code (p ∷ ps) (a ∷ rest) earlier l go =
      if_argument code p a earlier l (λ first r. if_arguments code ps rest (earlier ++ first ∷ []) r (λ others. go (first ∷ others)))
  if_arguments code (p ∷ ps) [] earlier l go = if_true (may_end (p ∷ ps)) (go [] l)
  if_arguments code [] (a ∷ rest) earlier l go = faulted fault.Kind

  -- a new cell, which the frame owns and the target refers to, as an object or as an `int`
  abbrev pub made_cell : Option ℕ → Content → MachineState → MachineState
  made_cell x content t =
      with_target x (ObjectCell (length t.cells)) (own (length t.cells) (record t { cells = make content t.cells; made = noted content (length t.cells) t.made }))

  abbrev pub made_int : Option ℕ → ℤ → MachineState → MachineState
  made_int x n t = with_target x (BigInt (length t.cells)) (own (length t.cells) (with_cells (make (IntCell n) t.cells) t))

  -- l is the ledger that the arguments left, and `gone` what was stolen
  abbrev pub applied : Option ℕ → Ledger → List ℕ → Effect → Next
  applied x l gone Wrong = faulted fault.Kind
  applied x l gone (Says w) = Goes (next_line (with_target x w (given gone (with_ledger l s))))
  applied x l gone (Shares w) = Goes (next_line (with_target x w (given gone (shared w (with_ledger l s)))))
  applied x l gone (Lends w) = Goes (next_line (with_target x w (given gone (with_ledger l s))))
  applied x l gone (Makes content) = Goes (next_line (made_cell x content (with_ledger l s)))
  applied x l gone (Changes c content w old) =
      Goes (next_line (with_target x w (given old (with_cells (refill content c s.cells) (with_ledger (more_of (refs_of w) l) s)))))
  applied x l gone (Writes text) = Goes (next_line (given gone (with_ledger l (record s { output = s.output ++ text }))))
  applied x l gone (Stores n old new) =
      Goes (next_line (given (set_refs (old ∷ [])) (record (with_ledger l s) { globals = slice_set s.globals n new })))
  applied x l gone (Fails w e) = Goes (next_line (with_target x w (raise e (given gone (with_ledger l s)))))
  applied x l gone (Pends c) = Goes (next_line (record (with_ledger l s) { pending = Some c }))
  applied x l gone (Catches c) = Goes (next_line (with_target x (ObjectCell c) (own c (record (with_ledger l s) { pending = None }))))
  applied x l gone (MakesInt n) = Goes (next_line (made_int x n (with_ledger l s)))
  applied x l gone (Reads text next) = Goes (next_line (made_cell x (StrCell text) (with_items next (with_ledger l s))))
  applied x l gone (Skips next w e) = Goes (next_line (with_target x w (raise e (given gone (with_items next (with_ledger l s))))))
  applied x l gone (Stops e) = Ends (Ended e) s

  abbrev pub primitive_step : Code → Option ℕ → List CArg → Primitive → Next
  primitive_step code x args p =
      if_arguments code (row_of p).parameters args [] s.top.ledger
      (λ all l. if_true (answer_fits code s.top (row_of p).outcome x all) (applied x l (stolen (row_of p).parameters all) (effect code s p all)))

  -- while an exception is pending only some rows may stand
  abbrev pub if_may_stand : Bool → Next → Next
  if_may_stand b go = cond b go (if_calm s.pending go)

  abbrev pub called : Code → Option ℕ → List CArg → Primitive → Next
  called code x args p = if_may_stand (row_of p).while_pending (primitive_step code x args p)

  -- what a call of a function passes: for each parameter a word of its kind, whose cell is there if it has one
  abbrev pub if_passed : List Kind → List CArg → (List Word → Next) → Next
  if_passed [] [] go = go []
  if_passed (k ∷ ks) (arg.Var x ∷ rest) go =
      word_of x (λ w. if_true (is_value_of k w) (if_there w (λ a. if_passed ks rest (λ ws. go (w ∷ ws)))))
  if_passed _ _ go = faulted fault.Kind

  -- the function of number f begins, with an empty ledger: what it is passed stays with the caller, who waits at the line
  -- behind the call
  abbrev pub entered : Option ℕ → ℕ → List Word → MachineState
  entered x f vars = record s { top = record { func = f; place = 0; vars = vars; ledger = []; into = x }; below = (next_line s).top ∷ s.below }

  abbrev pub function_step : Option ℕ → List CArg → ℕ → CFunc → Next
  function_step x args f g = if_passed (parameter_kinds g) args (λ ws. Goes (entered x f (entry_words ws g)))

  abbrev pub function_called : Code → Option ℕ → List CArg → Option ℕ → Next
  function_called code x args n =
      if_calm s.pending (if_some fault.Kind n (λ f. if_some fault.Kind (slice_get code.funcs f) (function_step x args f)))

  -- A call of a method: the object is tested, then that its class has a function there, which takes as many arguments and gives a
  -- result of the target's kind, and then the arguments, of which the object is the first.
  abbrev pub takes_and_gives : Code → ℕ → List ℕ → CFunc → Bool
  takes_and_gives code x args g = (length args == length (parameter_kinds g)) && has_kind g.ret (kind_of code s.top x)

  abbrev pub method_step : Code → ℕ → List ℕ → ℕ → CFunc → Next
  method_step code x args f g = if_true (takes_and_gives code x args g) (function_step (Some x) (map arg.Var args) f g)

  abbrev pub method_called : Code → ℕ → ℕ → List ℕ → (CClass → Option (List ℕ)) → Next
  method_called code x o args entry =
      if_calm s.pending (if_variable Object AnInstance o (λ a. if_some fault.Kind (method_of code entry a) (λ f. if_some fault.Kind (slice_get code.funcs f) (method_step code x (o ∷ args) f))))

  -- the name of a call is a primitive's or a function's
  abbrev pub call_step : Code → Option ℕ → List ℕ → List CArg → Option Primitive → Next
  call_step code x name args (Some p) = called code x args p
  call_step code x name args None = function_called code x args (function_named code.funcs name)

  -- the run goes on at a label
  abbrev pub jumped : Option ℕ → Next
  jumped p = if_some fault.Kind p (λ q. Goes (at_place q s))

  abbrev pub chosen : Option ℕ → Option ℕ → Word → Next
  chosen a b (CharWord zero) = jumped b
  chosen a b (CharWord (suc zero)) = jumped a
  chosen a b _ = faulted fault.Kind

  -- where no turn is left the run is cut; else one is spent
  abbrev pub turned : ℕ → Next
  turned zero = Ends (Ended Cut) s
  turned (suc n) = Goes (next_line (record s { turns = n }))

  -- a reference is taken; nothing happens for a word without a cell
  abbrev pub taken : ℕ → Next
  taken c = if_content c (λ content. Goes (next_line (took c s)))

  abbrev pub incremented : Word → Next
  incremented (ShortInt n) = Goes (next_line s)
  incremented (BigInt c) = taken c
  incremented (ObjectCell c) = taken c
  incremented NoneObject = Goes (next_line s)
  incremented TrueObject = Goes (next_line s)
  incremented FalseObject = Goes (next_line s)
  incremented _ = faulted fault.Kind

  -- a reference is given up; nothing happens for a word without a cell
  abbrev pub given_up : ℕ → Next
  given_up c = if_content c (λ content. if_taken c s.top.ledger (λ l. Goes (next_line (given (c ∷ []) (with_ledger l s)))))

  abbrev pub decremented : Word → Next
  decremented (ShortInt n) = Goes (next_line s)
  decremented (BigInt c) = given_up c
  decremented (ObjectCell c) = given_up c
  decremented NoneObject = Goes (next_line s)
  decremented TrueObject = Goes (next_line s)
  decremented FalseObject = Goes (next_line s)
  decremented _ = faulted fault.Kind

  -- the same, but that nothing happens for an error value
  abbrev pub decremented_if_set : Word → Next
  decremented_if_set TaggedError = Goes (next_line s)
  decremented_if_set NoObject = Goes (next_line s)
  decremented_if_set w = decremented w

  -- an error value is returned with a pending exception, any other value with none, and -113 with either
  abbrev pub if_in_order : Word → Option ℕ → Next → Next
  if_in_order w None go = cond (is_error w) (faulted fault.Kind) go
  if_in_order w (Some c) go = cond (is_error w) go (cond (is_both w) go (faulted fault.Kind))

  -- the returned reference leaves the ledger
  abbrev pub if_result : Word → (Ledger → Next) → Next
  if_result (BigInt c) go = if_content c (λ content. if_taken c s.top.ledger go)
  if_result (ObjectCell c) go = if_content c (λ content. if_taken c s.top.ledger go)
  if_result _ go = go s.top.ledger

  -- and nothing more may be left in it
  abbrev pub if_none_left : Ledger → Next → Next
  if_none_left [] go = go
  if_none_left (c ∷ l) go = cond is_checked (faulted fault.Leak) go

  -- the module itself returns 1, or 2 with an exception that is still pending
  abbrev pub if_thrown : Content → (Ending → Next) → Next
  if_thrown (ExcCell e) go = go (Raised e)
  if_thrown _ go = faulted fault.Kind

  abbrev pub if_ended : Word → Option ℕ → (Ending → Next) → Next
  if_ended (CharWord (suc zero)) None go = go Done
  if_ended (CharWord (suc (suc zero))) (Some c) go = if_content c (λ content. if_thrown content go)
  if_ended _ _ go = faulted fault.Kind

  -- what a return leads to: the module's end, or the caller, which owns the reference of the word from then on
  abbrev pub if_return : Word → List Frame → (Next → Next) → Next
  if_return w [] go = if_ended w s.pending (λ e. go (Ends (Ended e) s))
  if_return w (f ∷ fs) go =
      go (Goes (with_target s.top.into w (record s { top = record f { ledger = more_of (refs_of w) f.ledger }; below = fs })))

  -- the tests of kinds come before those of the ledger
  abbrev pub returned : Word → Next
  returned w = if_in_order w s.pending (if_return w s.below (λ next. if_result w (λ l. if_none_left l next)))

abbrev pub step_at : Bool → Code → MachineState → Option Line → Next
step_at b code s None = faulted b s fault.Kind
step_at b code s (Some Label) = Goes (next_line s)
step_at b code s (Some (Move x y)) = word_of b s y (λ w. if_there b s w (λ a. Goes (next_line (with_var x w s))))
step_at b code s (Some (Lit x l)) =
    if_some b s fault.Kind (option_and_then (λ k. literal_word k l) (kind_of code s.top x)) (λ w. Goes (next_line (with_var x w s)))
step_at b code s (Some (Call x name args)) = call_step b s code x name args (primitive_named name)
step_at b code s (Some (Virtual x o n args)) = method_called b s code x o args (method_at n)
step_at b code s (Some (TraitCall x o t n args)) = method_called b s code x o args (trait_method_at t n)
step_at b code s (Some (Goto n)) = jumped b s (label_at code s.top n)
step_at b code s (Some (If x n m)) = word_of b s x (chosen b s (label_at code s.top n) (label_at code s.top m))
step_at b code s (Some (IfError x n m)) = word_of b s x (λ w. jumped b s (label_at code s.top (cond (equals_error w) n m)))
step_at b code s (Some Turn) = if_calm b s s.pending (turned b s s.turns)
step_at b code s (Some (Return x)) = word_of b s x (returned b s)
step_at b code s (Some (Inc x)) = word_of b s x (incremented b s)
step_at b code s (Some (Dec x)) = word_of b s x (decremented b s)
step_at b code s (Some (XDec x)) = word_of b s x (decremented_if_set b s)

-- one step of a checked run
abbrev pub step : Code → MachineState → Next
step code s = step_at true code s (line_at code s.top)

-- one step of a run that makes no test of ownership
abbrev pub unchecked_step : Code → MachineState → Next
unchecked_step code s = step_at false code s (line_at code s.top)
