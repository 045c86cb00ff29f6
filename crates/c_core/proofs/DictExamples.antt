-- Small runs with dicts, computed: what is written, which cells are left, which exceptions and which faults come.
use Rattle.std.proofs.Common.{◌≡◌, refl, true, false, List, [], ◌∷◌, ◌++◌, Option, Some, None}
use Rattle.std.specs.Prelude.{ℕ, pos, negsuc, codes, slice_get}
use Rattle.std.specs.Fmt.{digits}
use Rattle.std.specs.Option.{option_and_then, option_map}
use Rattle.value_core.specs.declared.exception.ExcClass.TheVariants.{KeyError, RuntimeError}
use Rattle.value_core.specs.Ending.{Done, Raised}
use Rattle.value_core.specs.Exceptions.{Thrown, thrown}
use Rattle.value_core.specs.Items.{Eof}
use Rattle.c_core.specs.declared.code.Kind.TheVariants.{Tagged, Char, Object}
use Rattle.c_core.specs.declared.code.CLit.TheVariants.{Number, PyNone, PyTrue, PyFalse}
use Rattle.c_core.specs.declared.code.CArg.TheVariants as arg
use Rattle.c_core.specs.declared.code.Line.{Line}
use Rattle.c_core.specs.declared.code.Line.TheVariants.{Lit, Call, Return, Inc, Dec}
use Rattle.c_core.specs.declared.code.CFunc.{CFunc}
use Rattle.c_core.specs.declared.code.Code.{Code}
use Rattle.c_core.specs.declared.fault.Fault.TheVariants as fault
use Rattle.c_core.specs.Cells as cells
use Rattle.c_core.specs.Cells.{Cells}
use Rattle.c_core.specs.Machine.{Word, CharWord, ObjectCell, TrueObject, Content, IntCell, StrCell, DictCell, ExcCell}
use Rattle.c_core.specs.Step.{MachineEnding, Ended, Faulted}
use Rattle.c_core.specs.Run.{Stop, machine_run}
use Rattle.c_core.specs.Strings.{is_long_decimal}
use Rattle.c_core.specs.WellFormed.{function_fits}

-- a module with a dict, a key, a value, a number and a truth, and a global that can keep the dict
abbrev module_of : List Line → CFunc
module_of lines = record {
  name = [];
  ret = Char;
  params = 0;
  vars = (codes "d", Object) ∷ (codes "k", Object) ∷ (codes "v", Object) ∷ (codes "n", Tagged) ∷ (codes "ok", Char) ∷ [];
  lines = lines;
}

abbrev code_of : List Line → Code
code_of lines = record { globals = (codes "g", Object) ∷ []; classes = []; funcs = module_of lines ∷ [] }

abbrev dict : Line
dict = Call (Some 0) (codes "CPyDict_New") []

abbrev key : List ℕ → Line
key t = Call (Some 1) (codes "CPyStr_Literal") (arg.Text t ∷ [])

abbrev value : List ℕ → Line
value t = Call (Some 2) (codes "CPyStr_Literal") (arg.Text t ∷ [])

-- the key of a number: the `int` is half of what the literal writes
abbrev number_key : ℕ → List Line
number_key n = Lit 3 (Number (pos n)) ∷ Call (Some 1) (codes "CPyTagged_Box") (arg.Var 3 ∷ []) ∷ []

abbrev set : Line
set = Call None (codes "CPyDict_SetItem") (arg.Var 0 ∷ arg.Var 1 ∷ arg.Var 2 ∷ [])

abbrev get : Line
get = Call (Some 2) (codes "CPyDict_GetItem") (arg.Var 0 ∷ arg.Var 1 ∷ [])

abbrev cut : Line
cut = Call (Some 4) (codes "CPyDict_DelItem") (arg.Var 0 ∷ arg.Var 1 ∷ [])

abbrev has : Line
has = Call (Some 4) (codes "CPyDict_Contains") (arg.Var 0 ∷ arg.Var 1 ∷ [])

abbrev size : Line
size = Call (Some 3) (codes "CPyDict_Len") (arg.Var 0 ∷ [])

abbrev check_size : Line
check_size = Call (Some 4) (codes "CPyDict_CheckSize") (arg.Var 0 ∷ arg.Var 3 ∷ [])

abbrev key_at : Line
key_at = Call (Some 1) (codes "CPyDict_KeyAt") (arg.Var 0 ∷ arg.Var 3 ∷ [])

abbrev write : ℕ → Line
write x = Call None (codes "CPy_Write") (arg.Var x ∷ [])

abbrev keep : Line
keep = Call None (codes "CPyGlobal_Set") (arg.Global (codes "g") ∷ arg.Var 0 ∷ [])

abbrev ending : List Line
ending = Lit 4 (Number (pos 1)) ∷ Return 4 ∷ []

abbrev in_error : List Line
in_error = Lit 4 (Number (pos 2)) ∷ Return 4 ∷ []

abbrev run : List Line → Option Stop
run lines = machine_run 0 Eof (code_of lines)

-- how a run ends, what it writes, the cells that it leaves and the numbers of its objects; its ending alone; and the truth that stands
-- in the last variable then
abbrev seen : List Line → Option (MachineEnding × List ℕ × Cells Content × List ℕ)
seen lines = option_map (λ stop. (stop.ending, stop.state.output, stop.state.cells, stop.state.made)) (run lines)

abbrev end_of : List Line → Option MachineEnding
end_of lines = option_map (λ stop. stop.ending) (run lines)

abbrev truth_of : List Line → Option Word
truth_of lines = option_and_then (λ stop. slice_get stop.state.top.vars 4) (run lines)

abbrev once : Content → Option (cells.Cell Content)
once content = Some (record { count = 1; content = content })

abbrev text : List ℕ → Option (cells.Cell Content)
text t = once (StrCell t)

-- ---- values
abbrev set_and_get : List Line
set_and_get =
    dict ∷ key (codes "a") ∷ value (codes "1") ∷ set ∷ key (codes "a") ∷ get ∷ write 2 ∷ Dec 2 ∷ Dec 1 ∷ Dec 0 ∷ ending

fits : function_fits (code_of set_and_get) (module_of set_and_get) ≡ true
fits = refl

-- a write of an entry has no result
no_result : function_fits (code_of []) (module_of (dict ∷ Call (Some 4) (codes "CPyDict_SetItem") (arg.Var 0 ∷ arg.Var 1 ∷ arg.Var 2 ∷ []) ∷ ending)) ≡ false
no_result = refl

-- the value is found by an equal key, and with the dict go its key and its value
value_read : seen set_and_get ≡ Some (Ended Done, codes "1", None ∷ None ∷ None ∷ None ∷ [], 0 ∷ [])
value_read = refl

-- what was read is owned beside the dict
value_left : seen (dict ∷ key (codes "a") ∷ value (codes "1") ∷ set ∷ key (codes "a") ∷ get ∷ Dec 1 ∷ Dec 0 ∷ write 2 ∷ Dec 2 ∷ ending) ≡ Some (Ended Done, codes "1", None ∷ None ∷ None ∷ None ∷ [], 0 ∷ [])
value_left = refl

-- of an equal key the first one stays at its place, the second one and the old value are given up
value_overwritten : seen (dict ∷ key (codes "a") ∷ value (codes "1") ∷ set ∷ key (codes "b") ∷ value (codes "2") ∷ set ∷ key (codes "a") ∷ value (codes "3") ∷ set ∷ keep ∷ ending) ≡ Some (Ended Done, [], once (DictCell ((ObjectCell 1, ObjectCell 6) ∷ (ObjectCell 3, ObjectCell 4) ∷ [])) ∷ text (codes "a") ∷ None ∷ text (codes "b") ∷ text (codes "2") ∷ None ∷ text (codes "3") ∷ [], 0 ∷ [])
value_overwritten = refl

-- a pair is taken out, and its key and its value are given up
pair_cut : seen (dict ∷ key (codes "a") ∷ value (codes "1") ∷ set ∷ key (codes "b") ∷ value (codes "2") ∷ set ∷ key (codes "a") ∷ cut ∷ Dec 1 ∷ keep ∷ Return 4 ∷ []) ≡ Some (Ended Done, [], once (DictCell ((ObjectCell 3, ObjectCell 4) ∷ [])) ∷ None ∷ None ∷ text (codes "b") ∷ text (codes "2") ∷ None ∷ [], 0 ∷ [])
pair_cut = refl

-- a dict in itself stays, held by itself
abbrev set_itself : Line
set_itself = Call None (codes "CPyDict_SetItem") (arg.Var 0 ∷ arg.Var 1 ∷ arg.Var 0 ∷ [])

in_itself : seen (dict ∷ Inc 0 ∷ Lit 1 PyTrue ∷ set_itself ∷ Dec 0 ∷ ending) ≡ Some (Ended Done, [], once (DictCell ((TrueObject, ObjectCell 0) ∷ [])) ∷ [], 0 ∷ [])
in_itself = refl

-- what is put into a dict is owned no more, and goes with it
taken_twice : end_of (dict ∷ key (codes "a") ∷ value (codes "1") ∷ set ∷ set ∷ ending) ≡ Some (Faulted fault.NotOwned)
taken_twice = refl

key_gone : end_of (dict ∷ key (codes "a") ∷ value (codes "1") ∷ set ∷ Dec 0 ∷ write 1 ∷ ending) ≡ Some (Faulted fault.Dead)
key_gone = refl

-- ---- keys
found : (truth_of (dict ∷ key (codes "a") ∷ value (codes "1") ∷ set ∷ key (codes "a") ∷ has ∷ []) ≡ Some (CharWord 1)) × (truth_of (dict ∷ key (codes "a") ∷ value (codes "1") ∷ set ∷ key (codes "b") ∷ has ∷ []) ≡ Some (CharWord 0))
found = (refl, refl)

-- a truth is no number, and an equal number in another cell is an equal key
abbrev true_in : List Line
true_in = dict ∷ Lit 1 PyTrue ∷ value (codes "t") ∷ set ∷ []

truths : (truth_of (true_in ++ Lit 1 PyTrue ∷ has ∷ []) ≡ Some (CharWord 1)) × (truth_of (true_in ++ Lit 1 PyFalse ∷ has ∷ []) ≡ Some (CharWord 0)) × (truth_of (true_in ++ number_key 2 ++ has ∷ []) ≡ Some (CharWord 0))
truths = (refl, refl, refl)

numbers : (truth_of (dict ∷ number_key 2 ++ value (codes "t") ∷ set ∷ number_key 2 ++ has ∷ []) ≡ Some (CharWord 1)) × (truth_of (dict ∷ number_key 2 ++ value (codes "t") ∷ set ∷ number_key 4 ++ has ∷ []) ≡ Some (CharWord 0))
numbers = (refl, refl)

two_keys : seen (true_in ++ number_key 2 ++ value (codes "n") ∷ set ∷ keep ∷ ending) ≡ Some (Ended Done, [], once (DictCell ((TrueObject, ObjectCell 1) ∷ (ObjectCell 2, ObjectCell 3) ∷ [])) ∷ text (codes "t") ∷ once (IntCell (pos 1)) ∷ text (codes "n") ∷ [], 0 ∷ [])
two_keys = refl

-- other objects are no keys, and a key has to be there
no_keys : (end_of (dict ∷ Call (Some 1) (codes "CPyList_New") [] ∷ has ∷ ending) ≡ Some (Faulted fault.Kind)) × (end_of (dict ∷ Lit 1 PyNone ∷ has ∷ ending) ≡ Some (Faulted fault.Kind)) × (end_of (dict ∷ has ∷ ending) ≡ Some (Faulted fault.Kind)) × (end_of (dict ∷ key (codes "a") ∷ Dec 1 ∷ has ∷ ending) ≡ Some (Faulted fault.Dead))
no_keys = (refl, refl, refl, refl)

list_as_key : end_of (dict ∷ Call (Some 1) (codes "CPyList_New") [] ∷ value (codes "1") ∷ set ∷ ending) ≡ Some (Faulted fault.Kind)
list_as_key = refl

-- and a list is no dict
no_dict : end_of (Call (Some 0) (codes "CPyList_New") [] ∷ key (codes "a") ∷ has ∷ ending) ≡ Some (Faulted fault.Kind)
no_dict = refl

-- ---- keys that are missing, in the text of the exception as they are printed
abbrev failed : Thrown → Cells Content → Option (MachineEnding × List ℕ × Cells Content × List ℕ)
failed e gone = Some (Ended (Raised e), [], gone ++ once (ExcCell e) ∷ [], 0 ∷ [])

missing_text : seen (dict ∷ key (codes "no") ∷ get ∷ Dec 1 ∷ Dec 0 ∷ in_error) ≡ failed (thrown KeyError (codes "no")) (None ∷ None ∷ [])
missing_text = refl

missing_truth : seen (dict ∷ Lit 1 PyFalse ∷ get ∷ Dec 0 ∷ in_error) ≡ failed (thrown KeyError (codes "False")) (None ∷ [])
missing_truth = refl

missing_number : seen (dict ∷ number_key 24 ++ get ∷ Dec 1 ∷ Dec 0 ∷ in_error) ≡ failed (thrown KeyError (codes "12")) (None ∷ None ∷ [])
unfolding digits
missing_number = refl

cut_missing : seen (dict ∷ key (codes "no") ∷ cut ∷ Dec 1 ∷ Dec 0 ∷ Return 4 ∷ []) ≡ failed (thrown KeyError (codes "no")) (None ∷ None ∷ [])
cut_missing = refl

-- ---- sizes and places
same_size : end_of (dict ∷ key (codes "a") ∷ value (codes "1") ∷ set ∷ size ∷ check_size ∷ Dec 0 ∷ Return 4 ∷ []) ≡ Some (Ended Done)
same_size = refl

other_size : seen (dict ∷ Lit 3 (Number (pos 2)) ∷ check_size ∷ Dec 0 ∷ Return 4 ∷ []) ≡ failed (thrown RuntimeError (codes "dictionary changed size during iteration")) (None ∷ [])
other_size = refl

-- the keys stand in the order in which they were put in
abbrev two_in : List Line
two_in = dict ∷ key (codes "b") ∷ value (codes "1") ∷ set ∷ key (codes "a") ∷ value (codes "2") ∷ set ∷ []

keys_in_order : seen (two_in ++ Lit 3 (Number (pos 0)) ∷ key_at ∷ write 1 ∷ Dec 1 ∷ Lit 3 (Number (pos 2)) ∷ key_at ∷ Dec 0 ∷ write 1 ∷ Dec 1 ∷ ending) ≡ Some (Ended Done, codes "ba", None ∷ None ∷ None ∷ None ∷ None ∷ [], 0 ∷ [])
keys_in_order = refl

no_place : (end_of (two_in ++ Lit 3 (Number (pos 4)) ∷ key_at ∷ ending) ≡ Some (Faulted fault.Kind)) × (end_of (two_in ++ Lit 3 (Number (negsuc 1)) ∷ key_at ∷ ending) ≡ Some (Faulted fault.Kind))
no_place = (refl, refl)

-- ---- the decimal of an `int` that is not short, as C text has it
long_decimals : (is_long_decimal (codes "4611686018427387904") ≡ true) × (is_long_decimal (codes "-4611686018427387905") ≡ true) × (is_long_decimal (codes "4611686018427387903") ≡ false) × (is_long_decimal (codes "+4611686018427387904") ≡ false) × (is_long_decimal (codes "04611686018427387904") ≡ false) × (is_long_decimal (codes "170141183460469231731687303715884105728") ≡ false)
unfolding digits
long_decimals = (refl, refl, refl, refl, refl, refl)
