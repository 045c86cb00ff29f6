-- The definitions on small codes, the first of a module that prints 3.
use Rattle.std.proofs.Common.{◌≡◌, refl, [], ◌∷◌, ◌++◌, codes, Some, None, true, List, ℕ, Option}
use Rattle.std.specs.Option.{option_map}
use Rattle.std.specs.Prelude.{pos, negsuc, Bool, false}
use Rattle.std.specs.Fmt.{digits}
use Rattle.value_core.specs.Arithmetic.{i64_sub}
use Rattle.value_core.specs.Items.{Eof}
use Rattle.c_core.specs.declared.code.Kind.TheVariants.{Tagged, Int64, Char, Object}
use Rattle.c_core.specs.declared.code.CArg.{CArg}
use Rattle.c_core.specs.declared.code.CArg.TheVariants as arg
use Rattle.c_core.specs.declared.code.CLit.TheVariants.{Number, PyNone}
use Rattle.c_core.specs.declared.code.Line.{Line}
use Rattle.c_core.specs.declared.code.Line.TheVariants.{Label, Move, Lit, Call, Goto, If, IfError, Turn, Return, Inc, Dec, XDec}
use Rattle.c_core.specs.declared.code.CFunc.{CFunc}
use Rattle.c_core.specs.declared.code.Code.{Code}
use Rattle.c_core.specs.declared.fault.Fault.{Fault}
use Rattle.c_core.specs.declared.fault.Fault.TheVariants as fault
use Rattle.c_core.specs.declared.primitive.Primitive.TheVariants as prim
use Rattle.c_core.specs.declared.primitive.Int64Prim.TheVariants as int64
use Rattle.c_core.specs.declared.primitive.BoolPrim.TheVariants as bool
use Rattle.value_core.specs.Ending.{Done, Raised, Cut}
use Rattle.value_core.specs.declared.exception.ExcClass.TheVariants.{ZeroDivisionError, ValueError, NameError, KeyError}
use Rattle.value_core.specs.Exceptions.{Thrown, thrown}
use Rattle.c_core.specs.Cells as cells
use Rattle.c_core.specs.Step.{MachineEnding, Ended, Faulted, Says, Makes, Fails, effect}
use Rattle.c_core.specs.Ledgers.{more, without}
use Rattle.c_core.specs.Machine.{Word, ObjectCell, NoneObject, Native, CharWord, Content, StrCell, InstCell, ExcCell, MachineState}
use Rattle.c_core.specs.Primitives.{Is, OfGlobal, OfSlot, Anything, Borrows, Steals}
use Rattle.c_core.specs.Arguments.{Cell, Plain, Written, kind_found, stolen}
use Rattle.c_core.specs.Run.{Stop, machine_run, unchecked_run}
use Rattle.c_core.specs.Functions.{label_places}
use Rattle.c_core.specs.Text.{code_text, statement_lines, function_head}
use Rattle.c_core.specs.WellFormed.{function_fits, line_fits}

abbrev module_of : List Line → CFunc
module_of lines = record { name = []; ret = Char; params = 0; vars = (codes "t_0", Object) ∷ (codes "t_1", Char) ∷ []; lines = lines }

abbrev code_of : List Line → Code
code_of lines = record { globals = []; classes = []; funcs = module_of lines ∷ [] }

abbrev making : Line
making = Call (Some 0) (codes "CPyStr_Literal") (arg.Text (codes "3" ++ 10 ∷ []) ∷ [])

abbrev writing : Line
writing = Call None (codes "CPy_Write") (arg.Var 0 ∷ [])

abbrev ending : List Line
ending = Lit 1 (Number (pos 1)) ∷ Return 1 ∷ []

abbrev three : List Line
three = making ∷ writing ∷ Dec 0 ∷ ending

text_of_three : code_text (code_of three) ≡
    codes "/* mypyc subset 1 */\nchar CPyModule(void) {\n    PyObject *cpy_t_0;\n    char cpy_t_1;\n    cpy_t_0 = CPyStr_Literal(\"3\\n\");\n    CPy_Write(cpy_t_0);\n    CPy_DECREF(cpy_t_0);\n    cpy_t_1 = 1;\n    return cpy_t_1;\n}\n"
unfolding digits
text_of_three = refl

three_fits : function_fits (code_of three) (module_of three) ≡ true
three_fits = refl

abbrev pub seen : Option Stop → Option (MachineEnding × List ℕ)
seen r = option_map (λ stop. (stop.ending, stop.state.output)) r

-- it writes the number and a line feed, whatever the turns
run_of_three : seen (machine_run 0 Eof (code_of three)) ≡ Some (Ended Done, codes "3\n")
run_of_three = refl

-- without DECREF the module leaks, but not in an unchecked run; with two of them, or before the write, the cell is gone
leak : seen (machine_run 0 Eof (code_of (making ∷ writing ∷ ending))) ≡ Some (Faulted fault.Leak, codes "3\n")
leak = refl

unchecked_leak : seen (unchecked_run 0 Eof (code_of (making ∷ writing ∷ ending))) ≡ Some (Ended Done, codes "3\n")
unchecked_leak = refl

twice : seen (machine_run 0 Eof (code_of (making ∷ writing ∷ Dec 0 ∷ Dec 0 ∷ ending))) ≡ Some (Faulted fault.Dead, codes "3\n")
twice = refl

too_early : seen (machine_run 0 Eof (code_of (making ∷ Dec 0 ∷ writing ∷ ending))) ≡ Some (Faulted fault.Dead, [])
too_early = refl

-- a 0 that the module returns is not of the kind that it may return, whatever its ledger still holds
wrong_and_leaking : seen (machine_run 0 Eof (code_of (making ∷ Lit 1 (Number (pos 0)) ∷ Return 1 ∷ []))) ≡ Some (Faulted fault.Kind, [])
wrong_and_leaking = refl

-- a variable of objects begins with its error value
unset : seen (machine_run 0 Eof (code_of (writing ∷ ending))) ≡ Some (Faulted fault.Kind, [])
unset = refl

-- an argument is tested whole before the next one is looked at: a text that is gone, and then an argument too many
two_arguments : seen (machine_run 0 Eof (code_of (making ∷ Dec 0 ∷ Call None (codes "CPy_Write") (arg.Var 0 ∷ arg.Var 1 ∷ []) ∷ ending))) ≡ Some (Faulted fault.Dead, [])
two_arguments = refl

-- None is an object, but no text
none_written : seen (machine_run 0 Eof (code_of (Lit 0 PyNone ∷ writing ∷ ending))) ≡ Some (Faulted fault.Kind, [])
none_written = refl

-- ---- ledgers
put_in : more 2 (1 ∷ 2 ∷ 3 ∷ []) ≡ 1 ∷ 2 ∷ 2 ∷ 3 ∷ []
put_in = refl

taken_out : without 2 (1 ∷ 2 ∷ 2 ∷ 3 ∷ []) ≡ 1 ∷ 2 ∷ 3 ∷ []
taken_out = refl

-- ---- where kinds are found: at a global by its name, and at a slot by the object and its number
abbrev with_globals : Code
with_globals = record {
  globals = (codes "x", Tagged) ∷ (codes "y", Int64) ∷ [];
  classes = record { name = codes "A"; attrs = (codes "a", Char) ∷ (codes "b", Object) ∷ []; methods = []; traits = [] } ∷ [];
  funcs = [];
}

kind_of_y : kind_found with_globals OfGlobal (Written (arg.Global (codes "y")) ∷ []) ≡ Some Int64
kind_of_y = refl

kind_of_z : kind_found with_globals OfGlobal (Written (arg.Global (codes "z")) ∷ []) ≡ None
kind_of_z = refl

kind_of_b : kind_found with_globals OfSlot (Cell 7 (InstCell 0 (None ∷ None ∷ [])) ∷ Written (arg.Number (pos 1)) ∷ []) ≡ Some Object
kind_of_b = refl

kind_past_b : kind_found with_globals OfSlot (Cell 7 (InstCell 0 (None ∷ None ∷ [])) ∷ Written (arg.Number (pos 2)) ∷ []) ≡ None
kind_past_b = refl

-- a stolen cell is lost, a borrowed one and a word without a cell are not
lost : stolen (Borrows (Is Object) Anything ∷ Steals (Is Object) Anything ∷ Steals (Is Object) Anything ∷ []) (Cell 3 (StrCell []) ∷ Cell 4 (StrCell []) ∷ Plain NoneObject ∷ []) ≡ 4 ∷ []
lost = refl

-- ---- a function, which answers its first argument or a text of its own
abbrev calling : List ℕ → List CArg → Line
calling name args = Call (Some 1) (codes "CPyDef_" ++ name) args

abbrev either : List Line → CFunc
either lines = record {
  name = codes "f";
  ret = Object;
  params = 2;
  vars = (codes "r_s", Object) ∷ (codes "r_b", Char) ∷ (codes "t_0", Object) ∷ (codes "t_1", Object) ∷ [];
  lines = lines;
}

abbrev first_half : List Line
first_half =
    Turn ∷ If 1 0 1 ∷ Label
    ∷ Call (Some 2) (codes "CPyStr_Literal") (arg.Text (codes "!\n") ∷ [])
    ∷ Call (Some 3) (codes "CPyStr_Literal") (arg.Text (codes "a!\n") ∷ []) ∷ []

abbrev second_half : List Line
second_half = Return 3 ∷ Label ∷ Inc 0 ∷ Return 0 ∷ []

abbrev either_lines : List Line
either_lines = first_half ++ Dec 2 ∷ second_half

abbrev caller : List ℕ → CFunc
caller name = record {
  name = [];
  ret = Char;
  params = 0;
  vars = (codes "t_0", Object) ∷ (codes "t_1", Object) ∷ (codes "t_2", Char) ∷ [];
  lines = Call (Some 0) (codes "CPyStr_Literal") (arg.Text (codes "a") ∷ [])
      ∷ Lit 2 (Number (pos 1))
      ∷ calling name (arg.Var 0 ∷ arg.Var 2 ∷ [])
      ∷ Dec 0 ∷ Call None (codes "CPy_Write") (arg.Var 1 ∷ []) ∷ Dec 1 ∷ Lit 2 (Number (pos 1)) ∷ Return 2 ∷ [];
}

abbrev two : CFunc → CFunc → Code
two f g = record { globals = []; classes = []; funcs = f ∷ g ∷ [] }

text_of_two : code_text (two (either either_lines) (caller (codes "f"))) ≡
    codes "/* mypyc subset 1 */\nPyObject *CPyDef_f(PyObject *cpy_r_s, char cpy_r_b) {\n    PyObject *cpy_t_0;\n    PyObject *cpy_t_1;\n    CPyTurn();\n    if (cpy_r_b) goto CPyL0; else goto CPyL1;\nCPyL0: ;\n    cpy_t_0 = CPyStr_Literal(\"!\\n\");\n    cpy_t_1 = CPyStr_Literal(\"a!\\n\");\n    CPy_DECREF(cpy_t_0);\n    return cpy_t_1;\nCPyL1: ;\n    CPy_INCREF(cpy_r_s);\n    return cpy_r_s;\n}\nchar CPyModule(void) {\n    PyObject *cpy_t_0;\n    PyObject *cpy_t_1;\n    char cpy_t_2;\n    cpy_t_0 = CPyStr_Literal(\"a\");\n    cpy_t_2 = 1;\n    cpy_t_1 = CPyDef_f(cpy_t_0, cpy_t_2);\n    CPy_DECREF(cpy_t_0);\n    CPy_Write(cpy_t_1);\n    CPy_DECREF(cpy_t_1);\n    cpy_t_2 = 1;\n    return cpy_t_2;\n}\n"
unfolding digits
text_of_two = refl

either_fits : function_fits (two (either either_lines) (caller (codes "f"))) (either either_lines) ≡ true
either_fits = refl

caller_fits : function_fits (two (either either_lines) (caller (codes "f"))) (caller (codes "f")) ≡ true
caller_fits = refl

-- a function of another name, or none, is not there
other_name : function_fits (two (either either_lines) (caller (codes "g"))) (caller (codes "g")) ≡ false
other_name = refl

no_name : function_fits (two (either either_lines) (caller [])) (caller []) ≡ false
no_name = refl

-- the first line of a function is a turn
no_turn : function_fits (code_of []) (either (Label ∷ Return 3 ∷ [])) ≡ false
no_turn = refl

run_of_two : seen (machine_run 1 Eof (two (either either_lines) (caller (codes "f")))) ≡ Some (Ended Done, codes "a!\n")
run_of_two = refl

-- the call spends a turn
no_turn_left : seen (machine_run 0 Eof (two (either either_lines) (caller (codes "f")))) ≡ Some (Ended Cut, [])
no_turn_left = refl

unknown_function : seen (machine_run 1 Eof (two (either either_lines) (caller (codes "g")))) ≡ Some (Faulted fault.Kind, [])
unknown_function = refl

unnamed_function : seen (machine_run 1 Eof (two (either either_lines) (caller []))) ≡ Some (Faulted fault.Kind, [])
unnamed_function = refl

-- without DECREF of its text the function leaks, with DECREF of its parameter in place of it, it gives up what it does not
-- own, and with two the text is gone
function_leaks : seen (machine_run 1 Eof (two (either (first_half ++ second_half)) (caller (codes "f")))) ≡ Some (Faulted fault.Leak, [])
function_leaks = refl

parameter_borrowed : seen (machine_run 1 Eof (two (either (first_half ++ Dec 0 ∷ second_half)) (caller (codes "f")))) ≡ Some (Faulted fault.NotOwned, [])
parameter_borrowed = refl

text_gone : seen (machine_run 1 Eof (two (either (first_half ++ Dec 2 ∷ Dec 2 ∷ second_half)) (caller (codes "f")))) ≡ Some (Faulted fault.Dead, [])
text_gone = refl

-- what is returned is there, owned, and no error value
abbrev answered : List Line → Option (MachineEnding × List ℕ)
answered lines = seen (machine_run 1 Eof (two (either (Turn ∷ lines)) (caller (codes "f"))))

returned_borrowed : answered (Return 0 ∷ []) ≡ Some (Faulted fault.NotOwned, [])
returned_borrowed = refl

returned_gone : answered (Call (Some 2) (codes "CPyStr_Literal") (arg.Text [] ∷ []) ∷ Dec 2 ∷ Return 2 ∷ []) ≡ Some (Faulted fault.Dead, [])
returned_gone = refl

returned_error : answered (Return 2 ∷ []) ≡ Some (Faulted fault.Kind, [])
returned_error = refl

-- what is passed is a variable for each parameter, of its kind, there, and no error value
abbrev asked : List Line → Option (MachineEnding × List ℕ)
asked lines =
    seen (machine_run 1 Eof (two (either either_lines) (record {
      name = [];
      ret = Char;
      params = 0;
      vars = (caller []).vars;
      lines = Call (Some 0) (codes "CPyStr_Literal") (arg.Text (codes "a") ∷ []) ∷ Lit 2 (Number (pos 0)) ∷ lines;
    })))

abbrev passing : List CArg → Line
passing args = calling (codes "f") args

passed_right : asked (passing (arg.Var 0 ∷ arg.Var 2 ∷ []) ∷ Call None (codes "CPy_Write") (arg.Var 1 ∷ []) ∷ Dec 1 ∷ Dec 0 ∷ Lit 2 (Number (pos 1)) ∷ Return 2 ∷ []) ≡ Some (Ended Done, codes "a")
passed_right = refl

passed_too_few : asked (passing (arg.Var 0 ∷ []) ∷ []) ≡ Some (Faulted fault.Kind, [])
passed_too_few = refl

passed_too_many : asked (passing (arg.Var 0 ∷ arg.Var 2 ∷ arg.Var 2 ∷ []) ∷ []) ≡ Some (Faulted fault.Kind, [])
passed_too_many = refl

passed_a_number : asked (passing (arg.Var 0 ∷ arg.Number (pos 1) ∷ []) ∷ []) ≡ Some (Faulted fault.Kind, [])
passed_a_number = refl

passed_another_kind : asked (passing (arg.Var 2 ∷ arg.Var 2 ∷ []) ∷ []) ≡ Some (Faulted fault.Kind, [])
passed_another_kind = refl

passed_unset : asked (passing (arg.Var 1 ∷ arg.Var 2 ∷ []) ∷ []) ≡ Some (Faulted fault.Kind, [])
passed_unset = refl

passed_gone : asked (Dec 0 ∷ passing (arg.Var 0 ∷ arg.Var 2 ∷ []) ∷ []) ≡ Some (Faulted fault.Dead, [])
passed_gone = refl

-- a function that calls itself runs until no turn is left
recursion_cut : seen (machine_run 5 Eof (two (either (Turn ∷ Call (Some 2) (codes "CPyDef_f") (arg.Var 0 ∷ arg.Var 1 ∷ []) ∷ Return 2 ∷ [])) (caller (codes "f")))) ≡ Some (Ended Cut, [])
recursion_cut = refl

-- ---- loops
abbrev round : List Line
round = making ∷ Label ∷ writing ∷ Turn ∷ Goto 0 ∷ []

loop_cut : seen (machine_run 2 Eof (code_of round)) ≡ Some (Ended Cut, codes "3\n3\n3\n")
loop_cut = refl

abbrev fits : List Line → Bool
fits lines = function_fits (code_of lines) (module_of lines)

loop_fits : fits round ≡ true
loop_fits = refl

loop_without_turn : fits (Label ∷ writing ∷ Goto 0 ∷ []) ≡ false
loop_without_turn = refl

upwards : fits (Label ∷ Turn ∷ If 1 0 1 ∷ Label ∷ ending) ≡ false
upwards = refl

no_label : fits (If 1 0 1 ∷ Label ∷ ending) ≡ false
no_label = refl

both_ways : fits (If 1 0 1 ∷ Label ∷ Label ∷ Goto 2 ∷ Label ∷ ending) ≡ true
both_ways = refl

ends_inside : fits (Label ∷ Turn ∷ []) ≡ false
ends_inside = refl

places : label_places (Turn ∷ Label ∷ Turn ∷ Label ∷ []) ≡ 1 ∷ 3 ∷ []
places = refl

-- ---- jumps, moves and counts
abbrev ends_with : List Line → Option (MachineEnding × List ℕ)
ends_with lines = seen (machine_run 0 Eof (code_of (lines ++ ending)))

abbrev done : Option (MachineEnding × List ℕ)
done = Some (Ended Done, [])

abbrev at_fault : Fault → Option (MachineEnding × List ℕ)
at_fault f = Some (Faulted f, [])

-- which of two labels an `if` goes to: at the second one an object is given up that is not set
abbrev first_of_two : Line → List Line
first_of_two l = l ∷ Label ∷ Goto 2 ∷ Label ∷ Dec 0 ∷ Label ∷ []

if_true : ends_with (Lit 1 (Number (pos 1)) ∷ first_of_two (If 1 0 1)) ≡ done
if_true = refl

if_false : ends_with (Lit 1 (Number (pos 0)) ∷ first_of_two (If 1 0 1)) ≡ at_fault fault.Kind
if_false = refl

if_error : ends_with (If 1 0 0 ∷ Label ∷ []) ≡ at_fault fault.Kind
if_error = refl

object_is_error : ends_with (first_of_two (IfError 0 0 1)) ≡ done
object_is_error = refl

object_is_none : ends_with (Lit 0 PyNone ∷ IfError 0 1 0 ∷ Label ∷ Goto 2 ∷ Label ∷ XDec 1 ∷ Label ∷ []) ≡ done
object_is_none = refl

-- a test for the error value is no use of the cell, a move is one
gone_and_tested : ends_with (making ∷ Dec 0 ∷ IfError 0 1 0 ∷ Label ∷ Goto 2 ∷ Label ∷ XDec 1 ∷ Label ∷ []) ≡ done
gone_and_tested = refl

gone_and_moved : ends_with (making ∷ Dec 0 ∷ Move 0 0 ∷ []) ≡ at_fault fault.Dead
gone_and_moved = refl

error_moved : ends_with (Move 0 0 ∷ []) ≡ done
error_moved = refl

taken_and_given : ends_with (making ∷ Inc 0 ∷ Dec 0 ∷ XDec 0 ∷ []) ≡ done
taken_and_given = refl

taken_and_left : ends_with (making ∷ Inc 0 ∷ Dec 0 ∷ []) ≡ at_fault fault.Leak
taken_and_left = refl

taken_when_gone : ends_with (making ∷ Dec 0 ∷ Inc 0 ∷ []) ≡ at_fault fault.Dead
taken_when_gone = refl

error_taken : ends_with (Inc 0 ∷ []) ≡ at_fault fault.Kind
error_taken = refl

error_given_up : ends_with (Dec 0 ∷ []) ≡ at_fault fault.Kind
error_given_up = refl

error_passed_over : ends_with (XDec 0 ∷ []) ≡ done
error_passed_over = refl

none_counted : ends_with (Lit 0 PyNone ∷ Inc 0 ∷ Dec 0 ∷ XDec 0 ∷ []) ≡ done
none_counted = refl

-- ---- the texts of lines
texts : statement_lines ((codes "a", Tagged) ∷ (codes "b", Int64) ∷ (codes "c", Char) ∷ (codes "d", Object) ∷ []) (Move 0 0 ∷ IfError 0 0 1 ∷ Label ∷ IfError 1 1 10 ∷ Label ∷ IfError 2 0 0 ∷ IfError 3 0 0 ∷ Inc 0 ∷ XDec 0 ∷ XDec 3 ∷ Goto 1 ∷ [])
    ≡ codes "    cpy_a = cpy_a;"
    ∷ codes "    if (cpy_a == 1) goto CPyL0; else goto CPyL1;"
    ∷ codes "CPyL0: ;"
    ∷ codes "    if (cpy_b == -113) goto CPyL1; else goto CPyL10;"
    ∷ codes "CPyL1: ;"
    ∷ codes "    if (cpy_c == 2) goto CPyL0; else goto CPyL0;"
    ∷ codes "    if (cpy_d == NULL) goto CPyL0; else goto CPyL0;"
    ∷ codes "    CPyTagged_INCREF(cpy_a);"
    ∷ codes "    CPyTagged_XDECREF(cpy_a);"
    ∷ codes "    CPy_XDECREF(cpy_d);"
    ∷ codes "    goto CPyL1;"
    ∷ []
unfolding digits
texts = refl

globals_text : code_text (record { globals = (codes "x", Tagged) ∷ (codes "y", Object) ∷ []; classes = []; funcs = [] }) ≡ codes "/* mypyc subset 1 */\nCPyTagged CPyStatic_x;\nPyObject *CPyStatic_y;\n"
globals_text = refl

no_parameters : function_head (record { name = codes "g"; ret = Int64; params = 0; vars = []; lines = [] }) ≡ codes "int64_t CPyDef_g(void) {"
no_parameters = refl

-- ---- numbers and truths
module _ (code : Code) (s : MachineState) where
  subtracted : effect code s (prim.Int64 int64.Subtract) (Plain (Native (pos 3)) ∷ Plain (Native (pos 5)) ∷ []) ≡ Says (Native (i64_sub (pos 3) (pos 5)))
  subtracted = refl

  less : effect code s (prim.Int64 int64.Lt) (Plain (Native (negsuc 0)) ∷ Plain (Native (pos 1)) ∷ []) ≡ Says (CharWord 1)
  less = refl

  not_less : effect code s (prim.Int64 int64.Lt) (Plain (Native (pos 1)) ∷ Plain (Native (pos 1)) ∷ []) ≡ Says (CharWord 0)
  not_less = refl

  at_most : effect code s (prim.Int64 int64.Le) (Plain (Native (pos 1)) ∷ Plain (Native (pos 1)) ∷ []) ≡ Says (CharWord 1)
  at_most = refl

  equal : effect code s (prim.Int64 int64.Eq) (Plain (Native (negsuc 112)) ∷ Plain (Native (negsuc 112)) ∷ []) ≡ Says (CharWord 1)
  equal = refl

  of_true : effect code s (prim.Int64 int64.FromBool) (Plain (CharWord 1) ∷ []) ≡ Says (Native (pos 1))
  of_true = refl

  not_true : effect code s (prim.Bool bool.Not) (Plain (CharWord 1) ∷ []) ≡ Says (CharWord 0)
  not_true = refl

  text_of_false : effect code s (prim.Bool bool.Str) (Plain (CharWord 0) ∷ []) ≡ Makes (StrCell (codes "False"))
  text_of_false = refl

  text_of_number : effect code s (prim.Int64 int64.Str) (Plain (Native (negsuc 112)) ∷ []) ≡ Makes (StrCell (codes "-113"))
  unfolding digits
  text_of_number = refl

  divided : effect code s (prim.Int64 int64.FloorDivide) (Plain (Native (negsuc 6)) ∷ Plain (Native (pos 2)) ∷ []) ≡ Says (Native (negsuc 3))
  divided = refl

  left_over : effect code s (prim.Int64 int64.Remainder) (Plain (Native (negsuc 6)) ∷ Plain (Native (pos 2)) ∷ []) ≡ Says (Native (pos 1))
  left_over = refl

  by_zero : effect code s (prim.Int64 int64.Remainder) (Plain (Native (pos 1)) ∷ Plain (Native (pos 0)) ∷ []) ≡ Fails (Native (negsuc 112)) (thrown ZeroDivisionError (codes "integer division or modulo by zero"))
  by_zero = refl

  shifted_too_far : effect code s (prim.Int64 int64.Rshift) (Plain (Native (pos 1)) ∷ Plain (Native (pos 64)) ∷ []) ≡ Fails (Native (negsuc 112)) (thrown ValueError (codes "shift count out of range"))
  shifted_too_far = refl

-- ---- exceptions and globals
-- lines of a module with two globals and a variable of each kind
abbrev with_all : List Line → Code
with_all lines = record {
  globals = (codes "v", Int64) ∷ (codes "s", Object) ∷ [];
  classes = [];
  funcs = record {
    name = [];
    ret = Char;
    params = 0;
    vars = (codes "n", Int64) ∷ (codes "s", Object) ∷ (codes "e", Object) ∷ (codes "c", Char) ∷ [];
    lines = lines;
  } ∷ [];
}

-- how its run ends, with its output, the content and the count of each cell, and what the globals hold
abbrev left_of : Option Stop → Option (MachineEnding × (List ℕ × (List (Option (cells.Cell Content)) × List (Option Word))))
left_of r =
    option_map (λ stop. (stop.ending, (stop.state.output, (stop.state.cells, stop.state.globals)))) r

abbrev run_all : List Line → Option (MachineEnding × (List ℕ × (List (Option (cells.Cell Content)) × List (Option Word))))
run_all lines = left_of (machine_run 0 Eof (with_all lines))

abbrev in_error : List Line
in_error = Lit 3 (Number (pos 2)) ∷ Return 3 ∷ []

abbrev done_well : List Line
done_well = Lit 3 (Number (pos 1)) ∷ Return 3 ∷ []

abbrev new_text : List ℕ → Line
new_text text = Call (Some 1) (codes "CPyStr_Literal") (arg.Text text ∷ [])

abbrev v_is_unset : Thrown
v_is_unset = thrown NameError (codes "name 'v' is not defined")

-- a global that is unset raises, and the exception is left, held by being pending
unset_global : run_all (Call (Some 0) (codes "CPyGlobal_Get") (arg.Global (codes "v") ∷ []) ∷ in_error) ≡ Some (Ended (Raised v_is_unset), ([], (Some (record { count = 1; content = ExcCell v_is_unset }) ∷ [], None ∷ None ∷ [])))
unset_global = refl

-- nothing else may stand until it is caught
raised_twice : run_all (Call (Some 0) (codes "CPyGlobal_Get") (arg.Global (codes "v") ∷ []) ∷ Call None (codes "CPyErr_Unbound") (arg.Text (codes "x") ∷ []) ∷ in_error) ≡ Some (Faulted fault.Kind, ([], (Some (record { count = 1; content = ExcCell v_is_unset }) ∷ [], None ∷ None ∷ [])))
raised_twice = refl

-- it is caught, and given up
caught_and_given : run_all (Call (Some 0) (codes "CPyGlobal_Get") (arg.Global (codes "v") ∷ []) ∷ Call (Some 2) (codes "CPyErr_Catch") [] ∷ Dec 2 ∷ done_well) ≡ Some (Ended Done, ([], (None ∷ [], None ∷ None ∷ [])))
caught_and_given = refl

-- it is a NameError, and no ValueError
what_it_is : run_all (Call None (codes "CPyErr_Unbound") (arg.Text (codes "x") ∷ []) ∷ Call (Some 3) (codes "CPyErr_Matches") (arg.Text (codes "NameError") ∷ []) ∷ If 3 0 1 ∷ Label ∷ Call (Some 3) (codes "CPyErr_Matches") (arg.Text (codes "ValueError") ∷ []) ∷ If 3 1 2 ∷ Label ∷ Return 3 ∷ Label ∷ Call (Some 2) (codes "CPyErr_Catch") [] ∷ Dec 2 ∷ done_well) ≡ Some (Ended Done, ([], (None ∷ [], None ∷ None ∷ [])))
what_it_is = refl

-- an error value goes with a pending exception alone
error_alone : run_all in_error ≡ Some (Faulted fault.Kind, ([], ([], None ∷ None ∷ [])))
error_alone = refl

-- a global holds what was stolen, and what it held before is given up
written_over : run_all (new_text (codes "a") ∷ Call None (codes "CPyGlobal_Set") (arg.Global (codes "s") ∷ arg.Var 1 ∷ []) ∷ new_text (codes "b") ∷ Call None (codes "CPyGlobal_Set") (arg.Global (codes "s") ∷ arg.Var 1 ∷ []) ∷ done_well) ≡ Some (Ended Done, ([], (None ∷ Some (record { count = 1; content = StrCell (codes "b") }) ∷ [], None ∷ Some (ObjectCell 1) ∷ [])))
written_over = refl

-- a read takes a reference of its own
read_back : run_all (new_text (codes "a") ∷ Call None (codes "CPyGlobal_Set") (arg.Global (codes "s") ∷ arg.Var 1 ∷ []) ∷ Call (Some 2) (codes "CPyGlobal_Get") (arg.Global (codes "s") ∷ []) ∷ Call None (codes "CPyGlobal_Clear") (arg.Global (codes "s") ∷ []) ∷ Call None (codes "CPy_Write") (arg.Var 2 ∷ []) ∷ Dec 2 ∷ done_well) ≡ Some (Ended Done, (codes "a", (None ∷ [], None ∷ None ∷ [])))
read_back = refl

-- an exception is made of a class and a text, and raised
raised_by_hand : run_all (new_text (codes "no") ∷ Call (Some 2) (codes "CPyExc_New") (arg.Text (codes "KeyError") ∷ arg.Var 1 ∷ []) ∷ Dec 1 ∷ Call None (codes "CPyErr_SetObject") (arg.Var 2 ∷ []) ∷ in_error) ≡ Some (Ended (Raised (thrown KeyError (codes "no"))), ([], (None ∷ Some (record { count = 1; content = ExcCell (thrown KeyError (codes "no")) }) ∷ [], None ∷ None ∷ [])))
raised_by_hand = refl

-- the classes are those of the tree, and the globals those of the code
abbrev fits_all : Line → Bool
fits_all line = line_fits (with_all []) ((codes "n", Int64) ∷ (codes "s", Object) ∷ (codes "e", Object) ∷ (codes "c", Char) ∷ []) Char line

no_class : fits_all (Call (Some 3) (codes "CPyErr_Matches") (arg.Text (codes "Error") ∷ [])) ≡ false
no_class = refl

no_global : fits_all (Call (Some 0) (codes "CPyGlobal_Get") (arg.Global (codes "w") ∷ [])) ≡ false
no_global = refl

other_kind : fits_all (Call None (codes "CPyGlobal_Set") (arg.Global (codes "v") ∷ arg.Var 1 ∷ [])) ≡ false
other_kind = refl

same_kind_of_global : fits_all (Call None (codes "CPyGlobal_Set") (arg.Global (codes "v") ∷ arg.Var 0 ∷ [])) ≡ true
same_kind_of_global = refl
