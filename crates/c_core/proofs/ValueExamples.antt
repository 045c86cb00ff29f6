-- The primitives on numbers, texts and input, at the ends of what they take.
use Rattle.std.proofs.Common.{◌≡◌, refl, ℕ, ◌^◌, ◌-◌, [], ◌∷◌, ◌++◌, codes, Some, None, true, false, List, Option}
use Rattle.std.specs.Option.{option_map}
use Rattle.std.specs.Prelude.{ℤ, pos, negsuc}
use Rattle.std.specs.Fmt.{digits}
use Rattle.std.specs.Str.{chars}
use Rattle.std.proofs.Math.Utf8.{encode}
use Rattle.value_core.specs.declared.exception.ExcClass.TheVariants.{ZeroDivisionError, OverflowError, IndexError, ValueError, EOFError}
use Rattle.value_core.specs.Ending.{Done, Raised, Over, Broken}
use Rattle.value_core.specs.Exceptions.{Thrown, thrown}
use Rattle.value_core.specs.Items as item
use Rattle.value_core.specs.Items.{Items}
use Rattle.c_core.specs.declared.code.Kind.TheVariants.{Tagged, Char, Object}
use Rattle.c_core.specs.declared.code.CArg.TheVariants as arg
use Rattle.c_core.specs.declared.code.CLit.TheVariants.{Number}
use Rattle.c_core.specs.declared.code.Line.{Line}
use Rattle.c_core.specs.declared.code.Line.TheVariants.{Lit, Call, Return, Dec}
use Rattle.c_core.specs.declared.code.Code.{Code}
use Rattle.c_core.specs.declared.fault.Fault.TheVariants as fault
use Rattle.c_core.specs.declared.primitive.Primitive.TheVariants as prim
use Rattle.c_core.specs.declared.primitive.TaggedPrim.{TaggedPrim}
use Rattle.c_core.specs.declared.primitive.TaggedPrim.TheVariants as tagged
use Rattle.c_core.specs.declared.primitive.StrPrim.TheVariants as str
use Rattle.c_core.specs.Cells as cells
use Rattle.c_core.specs.Machine.{ShortInt, TaggedError, Native, CharWord, NoObject, Content, IntCell, StrCell, ExcCell, MachineState}
use Rattle.c_core.specs.Primitives.{ANumber, AText}
use Rattle.c_core.specs.Arguments.{Argument, Cell, Plain, Written, is_holding}
use Rattle.c_core.specs.Strings.{counted_length}
use Rattle.c_core.specs.Step.{MachineEnding, Ended, Faulted, Effect, Wrong, Says, Makes, Fails, MakesInt, effect}
use Rattle.c_core.specs.Run.{Stop, machine_run}

abbrev short : ℤ → Argument
short n = Plain (ShortInt n)

abbrev big : ℤ → Argument
big n = Cell 0 (IntCell n)

abbrev text : List ℕ → Argument
text t = Cell 0 (StrCell t)

abbrev past_int : Effect
past_int = Fails TaggedError (thrown OverflowError (codes "integer is past 128 bits"))

abbrev past_i64 : Effect
past_i64 = Fails (Native (negsuc 112)) (thrown OverflowError (codes "integer does not fit in i64"))

-- `a`, the euro sign with its three bytes, and `b`
abbrev with_euro : List ℕ
with_euro = 97 ∷ 226 ∷ 130 ∷ 172 ∷ 98 ∷ []

abbrev no_item : Effect
no_item = Fails NoObject (thrown IndexError (codes "string index out of range"))

-- a number that is asked for is short, or stands in a cell
holds_number : (is_holding ANumber (short (pos 1)) ≡ true) × (is_holding ANumber (big (pos 1)) ≡ true) × (is_holding ANumber (text []) ≡ false) × (is_holding ANumber (Plain (Native (pos 1))) ≡ false) × (is_holding AText (big (pos 1)) ≡ false)
holds_number = (refl, refl, refl, refl, refl)

module _ (code : Code) (s : MachineState) where
  abbrev on : TaggedPrim → List Argument → Effect
  on p all = effect code s (prim.Tagged p) all

  -- ---- the ends of what is short
  past_short : on tagged.Add (short (pos 4611686018427387903) ∷ short (pos 1) ∷ []) ≡ MakesInt (pos 4611686018427387904)
  past_short = refl

  short_again : on tagged.Add (big (pos 4611686018427387904) ∷ short (negsuc 0) ∷ []) ≡ Says (ShortInt (pos 4611686018427387903))
  short_again = refl

  least_short : on tagged.Negate (big (pos 4611686018427387904) ∷ []) ≡ Says (ShortInt (negsuc 4611686018427387903))
  least_short = refl

  below_short : on tagged.Subtract (short (negsuc 4611686018427387903) ∷ short (pos 1) ∷ []) ≡ MakesInt (negsuc 4611686018427387904)
  below_short = refl

  no_number : on tagged.Add (text [] ∷ short (pos 1) ∷ []) ≡ Wrong
  no_number = refl

  -- ---- quotients and rests
  quotients : (on tagged.FloorDivide (short (negsuc 6) ∷ short (pos 2) ∷ []) ≡ Says (ShortInt (negsuc 3))) × (on tagged.FloorDivide (short (pos 7) ∷ short (negsuc 1) ∷ []) ≡ Says (ShortInt (negsuc 3))) × (on tagged.FloorDivide (short (negsuc 6) ∷ short (negsuc 1) ∷ []) ≡ Says (ShortInt (pos 3)))
  quotients = (refl, refl, refl)

  rests : (on tagged.Remainder (short (negsuc 6) ∷ short (pos 2) ∷ []) ≡ Says (ShortInt (pos 1))) × (on tagged.Remainder (short (pos 7) ∷ short (negsuc 1) ∷ []) ≡ Says (ShortInt (negsuc 0)))
  rests = (refl, refl)

  by_zero : on tagged.FloorDivide (big (pos (2 ^ 100)) ∷ short (pos 0) ∷ []) ≡ Fails TaggedError (thrown ZeroDivisionError (codes "integer division or modulo by zero"))
  by_zero = refl

  -- ---- the ends of an `int`
  greatest : (on tagged.Add (big (pos (2 ^ 127 - 2)) ∷ short (pos 1) ∷ []) ≡ MakesInt (pos (2 ^ 127 - 1))) × (on tagged.Add (big (pos (2 ^ 127 - 1)) ∷ short (pos 1) ∷ []) ≡ past_int)
  greatest = (refl, refl)

  least : (on tagged.Subtract (big (negsuc (2 ^ 127 - 2)) ∷ short (pos 1) ∷ []) ≡ MakesInt (negsuc (2 ^ 127 - 1))) × (on tagged.Subtract (big (negsuc (2 ^ 127 - 1)) ∷ short (pos 1) ∷ []) ≡ past_int)
  least = (refl, refl)

  least_turned : (on tagged.Negate (big (negsuc (2 ^ 127 - 1)) ∷ []) ≡ past_int) × (on tagged.FloorDivide (big (negsuc (2 ^ 127 - 1)) ∷ short (negsuc 0) ∷ []) ≡ past_int) × (on tagged.Remainder (big (negsuc (2 ^ 127 - 1)) ∷ short (negsuc 0) ∷ []) ≡ Says (ShortInt (pos 0)))
  least_turned = (refl, refl, refl)

  product : (on tagged.Multiply (big (pos (2 ^ 63)) ∷ big (negsuc (2 ^ 64 - 1)) ∷ []) ≡ MakesInt (negsuc (2 ^ 127 - 1))) × (on tagged.Multiply (big (pos (2 ^ 63)) ∷ big (pos (2 ^ 64)) ∷ []) ≡ past_int)
  product = (refl, refl)

  -- ---- shifts
  shifts : (on tagged.Lshift (short (pos 1) ∷ short (pos 62) ∷ []) ≡ MakesInt (pos (2 ^ 62))) × (on tagged.Lshift (short (pos 1) ∷ short (pos 127) ∷ []) ≡ past_int) × (on tagged.Rshift (short (negsuc 4) ∷ short (pos 200) ∷ []) ≡ Says (ShortInt (negsuc 0)))
  shifts = (refl, refl, refl)

  by_less : (on tagged.Lshift (short (pos 1) ∷ short (negsuc 0) ∷ []) ≡ Fails TaggedError (thrown ValueError (codes "negative shift count"))) × (on tagged.Rshift (short (pos 1) ∷ short (negsuc 0) ∷ []) ≡ Fails TaggedError (thrown ValueError (codes "negative shift count")))
  by_less = (refl, refl)

  -- ---- comparisons, by the number alone
  compared : (on tagged.Eq (big (pos 5) ∷ short (pos 5) ∷ []) ≡ Says (CharWord 1)) × (on tagged.Lt (short (negsuc 0) ∷ big (pos (2 ^ 70)) ∷ []) ≡ Says (CharWord 1)) × (on tagged.Lt (short (pos 1) ∷ short (pos 1) ∷ []) ≡ Says (CharWord 0)) × (on tagged.Le (short (pos 1) ∷ short (pos 1) ∷ []) ≡ Says (CharWord 1))
  compared = (refl, refl, refl, refl)

  -- ---- to a native integer and from one
  fits_i64 : (on tagged.AsInt64 (big (pos (2 ^ 63 - 1)) ∷ []) ≡ Says (Native (pos 9223372036854775807))) × (on tagged.AsInt64 (big (negsuc (2 ^ 63 - 1)) ∷ []) ≡ Says (Native (negsuc 9223372036854775807))) × (on tagged.AsInt64 (short (negsuc 112) ∷ []) ≡ Says (Native (negsuc 112)))
  fits_i64 = (refl, refl, refl)

  no_i64 : (on tagged.AsInt64 (big (pos (2 ^ 63)) ∷ []) ≡ past_i64) × (on tagged.AsInt64 (big (negsuc (2 ^ 63)) ∷ []) ≡ past_i64)
  no_i64 = (refl, refl)

  from_i64 : (on tagged.FromInt64 (Plain (Native (negsuc 112)) ∷ []) ≡ Says (ShortInt (negsuc 112))) × (on tagged.FromInt64 (Plain (Native (pos 9223372036854775807)) ∷ []) ≡ MakesInt (pos 9223372036854775807)) × (on tagged.FromBool (Plain (CharWord 1) ∷ []) ≡ Says (ShortInt (pos 1)))
  from_i64 = (refl, refl, refl)

  -- ---- decimals
  -- none is short, none past 128 bits, and each is written as it is printed
  abbrev written : List ℕ → Effect
  written t = on tagged.FromText (Written (arg.Text t) ∷ [])

  from_text : (written (codes "4611686018427387904") ≡ MakesInt (pos (2 ^ 62))) × (written (codes "-4611686018427387905") ≡ MakesInt (negsuc (2 ^ 62))) × (written (codes "170141183460469231731687303715884105727") ≡ MakesInt (pos (2 ^ 127 - 1))) × (written (codes "-170141183460469231731687303715884105728") ≡ MakesInt (negsuc (2 ^ 127 - 1)))
  unfolding digits
  from_text = (refl, refl, refl, refl)

  from_short : (written (codes "4611686018427387903") ≡ Wrong) × (written (codes "-4611686018427387904") ≡ Wrong) × (written (codes "0") ≡ Wrong)
  unfolding digits
  from_short = (refl, refl, refl)

  from_past : (written (codes "170141183460469231731687303715884105728") ≡ Wrong) × (written (codes "-170141183460469231731687303715884105729") ≡ Wrong)
  unfolding digits
  from_past = (refl, refl)

  from_other : (written [] ≡ Wrong) × (written (codes "-") ≡ Wrong) × (written (codes "a") ≡ Wrong) × (written (codes "+4611686018427387904") ≡ Wrong) × (written (codes "04611686018427387904") ≡ Wrong) × (written (codes "4611686018427387904 ") ≡ Wrong)
  unfolding digits
  from_other = (refl, refl, refl, refl, refl, refl)

  printed : (on tagged.Str (big (negsuc (2 ^ 127 - 1)) ∷ []) ≡ Makes (StrCell (codes "-170141183460469231731687303715884105728"))) × (on tagged.Str (short (pos 0) ∷ []) ≡ Makes (StrCell (codes "0")))
  unfolding digits
  printed = (refl, refl)

  -- ---- texts
  concatenated : effect code s (prim.Str str.Concat) (text (codes "a") ∷ text (codes "bc") ∷ []) ≡ Makes (StrCell (codes "abc"))
  concatenated = refl

  same_text : (effect code s (prim.Str str.Eq) (text (codes "ab") ∷ text (codes "ab") ∷ []) ≡ Says (CharWord 1)) × (effect code s (prim.Str str.Eq) (text (codes "ab") ∷ text (codes "a") ∷ []) ≡ Says (CharWord 0))
  same_text = (refl, refl)

  -- a text comes before those that it begins, and `z` before the euro sign
  text_order : (effect code s (prim.Str str.Lt) (text (codes "a") ∷ text (codes "ab") ∷ []) ≡ Says (CharWord 1)) × (effect code s (prim.Str str.Lt) (text (codes "z") ∷ text (226 ∷ 130 ∷ 172 ∷ []) ∷ []) ≡ Says (CharWord 1)) × (effect code s (prim.Str str.Lt) (text (codes "a") ∷ text (codes "a") ∷ []) ≡ Says (CharWord 0)) × (effect code s (prim.Str str.Le) (text (codes "a") ∷ text (codes "a") ∷ []) ≡ Says (CharWord 1)) × (effect code s (prim.Str str.Le) (text (codes "b") ∷ text (codes "a") ∷ []) ≡ Says (CharWord 0))
  unfolding chars
  text_order = (refl, refl, refl, refl, refl)

  text_count : effect code s (prim.Str str.Len) (text with_euro ∷ []) ≡ Says (ShortInt (pos 3))
  unfolding chars
  text_count = refl

  text_items : (effect code s (prim.Str str.GetItem) (text with_euro ∷ short (negsuc 0) ∷ []) ≡ Makes (StrCell (codes "b"))) × (effect code s (prim.Str str.GetItem) (text with_euro ∷ short (pos 1) ∷ []) ≡ Makes (StrCell (226 ∷ 130 ∷ 172 ∷ []))) × (effect code s (prim.Str str.GetItem) (text with_euro ∷ short (negsuc 2) ∷ []) ≡ Makes (StrCell (codes "a")))
  unfolding chars encode
  text_items = (refl, refl, refl)

  no_items : (effect code s (prim.Str str.GetItem) (text with_euro ∷ short (pos 3) ∷ []) ≡ no_item) × (effect code s (prim.Str str.GetItem) (text with_euro ∷ short (negsuc 3) ∷ []) ≡ no_item) × (effect code s (prim.Str str.GetItem) (text with_euro ∷ big (pos (2 ^ 62)) ∷ []) ≡ no_item) × (effect code s (prim.Str str.GetItem) (text [] ∷ short (pos 0) ∷ []) ≡ no_item)
  unfolding chars
  no_items = (refl, refl, refl, refl)

counted_lengths : (counted_length 5 ≡ 5) × (counted_length (2 ^ 127 - 1) ≡ 2 ^ 127 - 1) × (counted_length (2 ^ 130) ≡ 2 ^ 127 - 1)
counted_lengths = (refl, refl, refl)

-- ---- runs
abbrev with_all : List Line → Code
with_all lines = record {
  globals = [];
  classes = [];
  funcs = record {
    name = [];
    ret = Char;
    params = 0;
    vars = (codes "a", Tagged) ∷ (codes "b", Tagged) ∷ (codes "s", Object) ∷ (codes "c", Char) ∷ [];
    lines = lines;
  } ∷ [];
}

-- how a run ends, with its output, its cells and what is left of its input
abbrev left_of : Option Stop → Option (MachineEnding × (List ℕ × (List (Option (cells.Cell Content)) × Items)))
left_of r =
    option_map (λ stop. (stop.ending, (stop.state.output, (stop.state.cells, stop.state.items)))) r

abbrev run_all : Items → List Line → Option (MachineEnding × (List ℕ × (List (Option (cells.Cell Content)) × Items)))
run_all items lines = left_of (machine_run 0 items (with_all lines))

abbrev done_well : List Line
done_well = Lit 3 (Number (pos 1)) ∷ Return 3 ∷ []

abbrev in_error : List Line
in_error = Lit 3 (Number (pos 2)) ∷ Return 3 ∷ []

abbrev making : Line
making = Call (Some 0) (codes "CPyTagged_FromText") (arg.Text (codes "4611686018427387904") ∷ [])

abbrev doubling : Line
doubling = Call (Some 1) (codes "CPyTagged_Add") (arg.Var 0 ∷ arg.Var 0 ∷ [])

abbrev printing : List Line
printing = Call (Some 2) (codes "CPyTagged_Str") (arg.Var 1 ∷ []) ∷ Call None (codes "CPy_Write") (arg.Var 2 ∷ []) ∷ Dec 2 ∷ []

-- a number in a cell is owned as an object is: it is given up once, and not at all it is left
number_given : run_all item.Eof (making ∷ doubling ∷ Dec 0 ∷ printing ++ Dec 1 ∷ done_well) ≡ Some (Ended Done, (codes "9223372036854775808", (None ∷ None ∷ None ∷ [], item.Eof)))
unfolding digits
number_given = refl

number_left : run_all item.Eof (making ∷ done_well) ≡ Some (Faulted fault.Leak, ([], (Some (record { count = 1; content = IntCell (pos (2 ^ 62)) }) ∷ [], item.Eof)))
unfolding digits
number_left = refl

number_gone : run_all item.Eof (making ∷ Dec 0 ∷ doubling ∷ done_well) ≡ Some (Faulted fault.Dead, ([], (None ∷ [], item.Eof)))
unfolding digits
number_gone = refl

-- a number that is unset is none
number_unset : run_all item.Eof (doubling ∷ done_well) ≡ Some (Faulted fault.Kind, ([], ([], item.Eof)))
number_unset = refl

-- a number that is short is given up without a cell
short_given : run_all item.Eof (Lit 0 (Number (pos 6)) ∷ doubling ∷ Dec 0 ∷ printing ++ Dec 1 ∷ done_well) ≡ Some (Ended Done, (codes "6", (None ∷ [], item.Eof)))
unfolding digits
short_given = refl

-- ---- input
abbrev reading : Line
reading = Call (Some 2) (codes "CPy_Input") []

abbrev echoing : List Line
echoing = reading ∷ Call None (codes "CPy_Write") (arg.Var 2 ∷ []) ∷ Dec 2 ∷ done_well

line_echoed : run_all (item.Line (codes "ab") item.Over) echoing ≡ Some (Ended Done, (codes "ab", (None ∷ [], item.Over)))
line_echoed = refl

abbrev failed : Thrown → Items → Option (MachineEnding × (List ℕ × (List (Option (cells.Cell Content)) × Items)))
failed e items = Some (Ended (Raised e), ([], (Some (record { count = 1; content = ExcCell e }) ∷ [], items)))

-- a line that is not UTF-8 is passed over, and the end of the input stays
bad_line : run_all (item.Bad item.Eof) (reading ∷ in_error) ≡ failed (thrown ValueError (codes "input is not UTF-8")) item.Eof
bad_line = refl

no_line : run_all item.Eof (reading ∷ in_error) ≡ failed (thrown EOFError (codes "EOF when reading a line")) item.Eof
no_line = refl

-- the run ends as it stood before the line, whatever is owned
line_too_far : run_all item.Over (making ∷ reading ∷ done_well) ≡ Some (Ended Over, ([], (Some (record { count = 1; content = IntCell (pos (2 ^ 62)) }) ∷ [], item.Over)))
unfolding digits
line_too_far = refl

input_broken : run_all item.Broken echoing ≡ Some (Ended Broken, ([], ([], item.Broken)))
input_broken = refl
