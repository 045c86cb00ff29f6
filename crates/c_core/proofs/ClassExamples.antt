-- Small runs with instances, methods and reads that are lent, computed; and the text of a class.
use Rattle.std.proofs.Common.{◌≡◌, refl, true, false, List, [], ◌∷◌, ◌++◌, Option, Some, None}
use Rattle.std.specs.Prelude.{ℕ, pos, negsuc, Bool, codes}
use Rattle.std.specs.Fmt.{digits}
use Rattle.std.specs.Option.{option_map}
use Rattle.value_core.specs.declared.exception.ExcClass.TheVariants.{AttributeError, IndexError}
use Rattle.value_core.specs.Ending.{Done, Raised, Cut}
use Rattle.value_core.specs.Exceptions.{Thrown, thrown}
use Rattle.value_core.specs.Items.{Eof}
use Rattle.c_core.specs.declared.code.Kind.TheVariants.{Tagged, Char, Object}
use Rattle.c_core.specs.declared.code.CLit.TheVariants.{Number}
use Rattle.c_core.specs.declared.code.CArg.TheVariants as arg
use Rattle.c_core.specs.declared.code.Line.{Line}
use Rattle.c_core.specs.declared.code.Line.TheVariants.{Lit, Call, Virtual, TraitCall, Turn, Return, Inc, Dec}
use Rattle.c_core.specs.declared.code.CClass.{CClass}
use Rattle.c_core.specs.declared.code.CFunc.{CFunc}
use Rattle.c_core.specs.declared.code.Code.{Code}
use Rattle.c_core.specs.declared.fault.Fault.TheVariants as fault
use Rattle.c_core.specs.Cells as cells
use Rattle.c_core.specs.Cells.{Cells}
use Rattle.c_core.specs.Machine.{ShortInt, ObjectCell, Content, StrCell, InstCell, ExcCell}
use Rattle.c_core.specs.Step.{MachineEnding, Ended, Faulted}
use Rattle.c_core.specs.Run.{Stop, machine_run}
use Rattle.c_core.specs.Text.{class_line, statement_text, code_text}
use Rattle.c_core.specs.WellFormed.{Declared, class_fits, classes_fit, functions_fit, function_fits, line_fits}

-- a trait, and a class with two attributes, two methods and two lists for the trait, of which the first one counts
abbrev trait_of : CClass
trait_of = record { name = codes "T"; attrs = []; methods = []; traits = [] }

abbrev class_of : CClass
class_of = record {
  name = codes "C";
  attrs = (codes "n", Tagged) ∷ (codes "s", Object) ∷ [];
  methods = codes "1C_text" ∷ codes "1C_same" ∷ [];
  traits = (codes "T", codes "1C_text" ∷ []) ∷ (codes "T", codes "1C_same" ∷ codes "1C_same" ∷ []) ∷ [];
}

-- a method that reads the second attribute, and one that answers its argument
abbrev text_method : CFunc
text_method = record {
  name = codes "1C_text";
  ret = Object;
  params = 1;
  vars = (codes "self", Object) ∷ (codes "t", Object) ∷ [];
  lines = Turn ∷ Call (Some 1) (codes "CPyAttr_Get") (arg.Var 0 ∷ arg.Number (pos 1) ∷ []) ∷ Return 1 ∷ [];
}

abbrev same_method : CFunc
same_method = record {
  name = codes "1C_same";
  ret = Tagged;
  params = 2;
  vars = (codes "self", Object) ∷ (codes "n", Tagged) ∷ [];
  lines = Turn ∷ Inc 1 ∷ Return 1 ∷ [];
}

-- a module with an object, a text, a number and a truth, and a global that can keep the object
abbrev variables : List Declared
variables = (codes "o", Object) ∷ (codes "s", Object) ∷ (codes "n", Tagged) ∷ (codes "ok", Char) ∷ []

abbrev module_of : List Line → CFunc
module_of lines = record { name = []; ret = Char; params = 0; vars = variables; lines = lines }

abbrev code_of : List Line → Code
code_of lines = record {
  globals = (codes "g", Object) ∷ [];
  classes = trait_of ∷ class_of ∷ [];
  funcs = text_method ∷ same_method ∷ module_of lines ∷ [];
}

abbrev new : Line
new = Call (Some 0) (codes "CPyInstance_New") (arg.Class (codes "C") ∷ [])

abbrev text : List ℕ → Line
text t = Call (Some 1) (codes "CPyStr_Literal") (arg.Text t ∷ [])

abbrev put : Line
put = Call None (codes "CPyAttr_Set") (arg.Var 0 ∷ arg.Number (pos 1) ∷ arg.Var 1 ∷ [])

abbrev put_number : Line
put_number = Call None (codes "CPyAttr_Set") (arg.Var 0 ∷ arg.Number (pos 0) ∷ arg.Var 2 ∷ [])

-- the slot of a number, read into a variable
abbrev read : ℕ → ℕ → Line
read x n = Call (Some x) (codes "CPyAttr_Get") (arg.Var 0 ∷ arg.Number (pos n) ∷ [])

abbrev lend : ℕ → ℕ → Line
lend x n = Call (Some x) (codes "CPyAttr_GetBorrow") (arg.Var 0 ∷ arg.Number (pos n) ∷ [])

abbrev write : Line
write = Call None (codes "CPy_Write") (arg.Var 1 ∷ [])

abbrev keep : Line
keep = Call None (codes "CPyGlobal_Set") (arg.Global (codes "g") ∷ arg.Var 0 ∷ [])

abbrev ending : List Line
ending = Lit 3 (Number (pos 1)) ∷ Return 3 ∷ []

abbrev in_error : List Line
in_error = Lit 3 (Number (pos 2)) ∷ Return 3 ∷ []

-- a run that may make one call
abbrev run : List Line → Option Stop
run lines = machine_run 1 Eof (code_of lines)

-- how a run ends, what it writes, the cells that it leaves and the numbers of its objects; and its ending alone
abbrev seen : List Line → Option (MachineEnding × List ℕ × Cells Content × List ℕ)
seen lines = option_map (λ stop. (stop.ending, stop.state.output, stop.state.cells, stop.state.made)) (run lines)

abbrev end_of : List Line → Option MachineEnding
end_of lines = option_map (λ stop. stop.ending) (run lines)

abbrev once : Content → Option (cells.Cell Content)
once content = Some (record { count = 1; content = content })

-- ---- attributes
abbrev put_and_read : List Line
put_and_read = new ∷ text (codes "a") ∷ put ∷ read 1 1 ∷ write ∷ Dec 1 ∷ Dec 0 ∷ ending

fits : function_fits (code_of put_and_read) (module_of put_and_read) ≡ true
fits = refl

-- an instance begins with all attributes unset
made : seen (new ∷ keep ∷ ending) ≡ Some (Ended Done, [], once (InstCell 1 (None ∷ None ∷ [])) ∷ [], 0 ∷ [])
made = refl

-- an attribute that is read is owned beside the object, and with the object goes what it holds
attribute_read : seen put_and_read ≡ Some (Ended Done, codes "a", None ∷ None ∷ [], 0 ∷ [])
attribute_read = refl

-- what an attribute held is given up as another one takes its place
set_twice : seen (new ∷ text (codes "a") ∷ put ∷ text (codes "b") ∷ put ∷ keep ∷ ending) ≡ Some (Ended Done, [], once (InstCell 1 (None ∷ Some (ObjectCell 2) ∷ [])) ∷ None ∷ once (StrCell (codes "b")) ∷ [], 0 ∷ [])
set_twice = refl

number_set : seen (new ∷ Lit 2 (Number (pos 6)) ∷ put_number ∷ read 2 0 ∷ put_number ∷ keep ∷ ending) ≡ Some (Ended Done, [], once (InstCell 1 (Some (ShortInt (pos 3)) ∷ None ∷ [])) ∷ [], 0 ∷ [])
number_set = refl

taken_twice : end_of (new ∷ text (codes "a") ∷ put ∷ put ∷ ending) ≡ Some (Faulted fault.NotOwned)
taken_twice = refl

-- one that is unset is told by its name and its class
abbrev failed : Thrown → Option (MachineEnding × List ℕ × Cells Content × List ℕ)
failed e = Some (Ended (Raised e), [], None ∷ once (ExcCell e) ∷ [], 0 ∷ [])

unset : seen (new ∷ read 1 1 ∷ Dec 0 ∷ in_error) ≡ failed (thrown AttributeError (codes "attribute 's' of 'C' undefined"))
unset = refl

unset_number : seen (new ∷ lend 2 0 ∷ Dec 0 ∷ in_error) ≡ failed (thrown AttributeError (codes "attribute 'n' of 'C' undefined"))
unset_number = refl

-- a slot has to be there, and the variable into which it is read is of its kind, whatever it holds
no_slot : (end_of (new ∷ read 1 2 ∷ ending) ≡ Some (Faulted fault.Kind)) × (end_of (new ∷ Call None (codes "CPyAttr_Get") (arg.Var 0 ∷ arg.Number (pos 2) ∷ []) ∷ ending) ≡ Some (Faulted fault.Kind)) × (end_of (new ∷ text (codes "a") ∷ Call None (codes "CPyAttr_Set") (arg.Var 0 ∷ arg.Number (pos 2) ∷ arg.Var 1 ∷ []) ∷ ending) ≡ Some (Faulted fault.Kind))
no_slot = (refl, refl, refl)

other_kind : (end_of (new ∷ read 2 1 ∷ ending) ≡ Some (Faulted fault.Kind)) × (end_of (new ∷ lend 1 0 ∷ ending) ≡ Some (Faulted fault.Kind)) × (end_of (new ∷ text (codes "a") ∷ Call None (codes "CPyAttr_Set") (arg.Var 0 ∷ arg.Number (pos 0) ∷ arg.Var 1 ∷ []) ∷ ending) ≡ Some (Faulted fault.Kind))
other_kind = (refl, refl, refl)

-- a text has no attributes
no_instance : end_of (text (codes "a") ∷ Call (Some 0) (codes "CPyAttr_Get") (arg.Var 1 ∷ arg.Number (pos 0) ∷ []) ∷ ending) ≡ Some (Faulted fault.Kind)
no_instance = refl

-- ---- what is lent is there as long as what holds it, and is not owned
abbrev one_set : List Line
one_set = new ∷ text (codes "a") ∷ put ∷ []

lent_read : seen (one_set ++ lend 1 1 ∷ write ∷ Dec 0 ∷ ending) ≡ Some (Ended Done, codes "a", None ∷ None ∷ [], 0 ∷ [])
lent_read = refl

lent_given : end_of (one_set ++ lend 1 1 ∷ Dec 1 ∷ ending) ≡ Some (Faulted fault.NotOwned)
lent_given = refl

lent_gone : end_of (one_set ++ lend 1 1 ∷ Dec 0 ∷ write ∷ ending) ≡ Some (Faulted fault.Dead)
lent_gone = refl

-- one of its own can be taken
lent_taken : seen (one_set ++ lend 1 1 ∷ Inc 1 ∷ Dec 0 ∷ write ∷ Dec 1 ∷ ending) ≡ Some (Ended Done, codes "a", None ∷ None ∷ [], 0 ∷ [])
lent_taken = refl

-- the items of lists and tuples likewise
abbrev one_in : List Line
one_in =
    Call (Some 0) (codes "CPyList_New") [] ∷ text (codes "a") ∷ Call None (codes "CPyList_Append") (arg.Var 0 ∷ arg.Var 1 ∷ []) ∷ Lit 2 (Number (pos 0)) ∷ []

abbrev lend_item : Line
lend_item = Call (Some 1) (codes "CPyList_GetItemBorrow") (arg.Var 0 ∷ arg.Var 2 ∷ [])

item_lent : (seen (one_in ++ lend_item ∷ write ∷ Dec 0 ∷ ending) ≡ Some (Ended Done, codes "a", None ∷ None ∷ [], 0 ∷ [])) × (end_of (one_in ++ lend_item ∷ Dec 1 ∷ ending) ≡ Some (Faulted fault.NotOwned))
item_lent = (refl, refl)

no_item : seen (Call (Some 0) (codes "CPyList_New") [] ∷ Lit 2 (Number (pos 0)) ∷ lend_item ∷ Dec 0 ∷ in_error) ≡ failed (thrown IndexError (codes "list index out of range"))
no_item = refl

abbrev one_packed : List Line
one_packed = text (codes "a") ∷ Call (Some 0) (codes "CPyTuple_Pack") (arg.Var 1 ∷ []) ∷ []

abbrev lend_part : Line
lend_part = Call (Some 1) (codes "CPyTuple_GetItemBorrow") (arg.Var 0 ∷ arg.Number (pos 0) ∷ [])

part_lent : (seen (one_packed ++ lend_part ∷ write ∷ Dec 0 ∷ ending) ≡ Some (Ended Done, codes "a", None ∷ None ∷ [], [])) × (end_of (one_packed ++ lend_part ∷ Dec 1 ∷ ending) ≡ Some (Faulted fault.NotOwned))
part_lent = (refl, refl)

-- ---- methods
abbrev called_text : List Line
called_text = write ∷ Dec 1 ∷ Dec 0 ∷ ending

-- a method by its place, and one that the class has for a trait
by_place : seen (one_set ++ Virtual 1 0 0 [] ∷ called_text) ≡ Some (Ended Done, codes "a", None ∷ None ∷ [], 0 ∷ [])
by_place = refl

by_trait : seen (one_set ++ TraitCall 1 0 (codes "T") 0 [] ∷ called_text) ≡ Some (Ended Done, codes "a", None ∷ None ∷ [], 0 ∷ [])
by_trait = refl

methods_fit : function_fits (code_of (one_set ++ Virtual 1 0 0 [] ∷ called_text)) (module_of (one_set ++ TraitCall 1 0 (codes "T") 0 [] ∷ called_text)) ≡ true
methods_fit = refl

-- the object comes before the arguments
with_argument : seen (new ∷ Lit 2 (Number (pos 6)) ∷ Virtual 2 0 1 (2 ∷ []) ∷ put_number ∷ keep ∷ ending) ≡ Some (Ended Done, [], once (InstCell 1 (Some (ShortInt (pos 3)) ∷ None ∷ [])) ∷ [], 0 ∷ [])
with_argument = refl

-- what a method raises goes on to its caller
raised_inside : seen (new ∷ Virtual 1 0 0 [] ∷ Dec 0 ∷ in_error) ≡ failed (thrown AttributeError (codes "attribute 's' of 'C' undefined"))
raised_inside = refl

-- a call spends a turn
no_turn_left : end_of (new ∷ Lit 2 (Number (pos 6)) ∷ Virtual 2 0 1 (2 ∷ []) ∷ Virtual 2 0 1 (2 ∷ []) ∷ ending) ≡ Some (Ended Cut)
no_turn_left = refl

-- an entry that is missing, also in the first list for a trait where the second one has it, and a trait that the class has not
no_entry : (end_of (one_set ++ Virtual 1 0 2 [] ∷ ending) ≡ Some (Faulted fault.Kind)) × (end_of (one_set ++ TraitCall 1 0 (codes "T") 1 [] ∷ ending) ≡ Some (Faulted fault.Kind)) × (end_of (one_set ++ TraitCall 1 0 (codes "C") 0 [] ∷ ending) ≡ Some (Faulted fault.Kind))
no_entry = (refl, refl, refl)

-- arguments of another number or kind, and a result of another kind
other_arguments : (end_of (one_set ++ Virtual 1 0 0 (0 ∷ []) ∷ ending) ≡ Some (Faulted fault.Kind)) × (end_of (one_set ++ Virtual 2 0 1 [] ∷ ending) ≡ Some (Faulted fault.Kind)) × (end_of (one_set ++ Virtual 2 0 1 (0 ∷ []) ∷ ending) ≡ Some (Faulted fault.Kind))
other_arguments = (refl, refl, refl)

other_result : end_of (one_set ++ Virtual 2 0 0 [] ∷ ending) ≡ Some (Faulted fault.Kind)
other_result = refl

-- the object is tested first, then the entry, the number of arguments and the kind of the result, and then the arguments
object_gone : end_of (new ∷ Dec 0 ∷ Virtual 1 0 2 [] ∷ ending) ≡ Some (Faulted fault.Dead)
object_gone = refl

no_object : end_of (text (codes "a") ∷ Virtual 0 1 0 [] ∷ ending) ≡ Some (Faulted fault.Kind)
no_object = refl

abbrev long_number : Line
long_number = Call (Some 2) (codes "CPyTagged_FromText") (arg.Text (codes "4611686018427387904") ∷ [])

argument_gone : (end_of (new ∷ long_number ∷ Dec 2 ∷ Virtual 2 0 1 (2 ∷ []) ∷ ending) ≡ Some (Faulted fault.Dead)) × (end_of (new ∷ long_number ∷ Dec 2 ∷ Virtual 1 0 1 (2 ∷ []) ∷ ending) ≡ Some (Faulted fault.Kind)) × (end_of (new ∷ long_number ∷ Dec 2 ∷ Virtual 2 0 1 (2 ∷ 2 ∷ []) ∷ ending) ≡ Some (Faulted fault.Kind))
unfolding digits
argument_gone = (refl, refl, refl)

-- no method is called while an exception is pending
while_pending : end_of (new ∷ read 1 1 ∷ Virtual 1 0 0 [] ∷ ending) ≡ Some (Faulted fault.Kind)
while_pending = refl

-- ---- which classes fit
all_fit : (classes_fit (code_of ending) ≡ true) × (functions_fit (code_of ending) ≡ true)
all_fit = (refl, refl)

abbrev with_class : CClass → Bool
with_class k = class_fits (code_of ending) k

-- names of attributes differ, and functions and traits are there
others : (with_class (record class_of { attrs = (codes "n", Tagged) ∷ (codes "n", Object) ∷ [] }) ≡ false) × (with_class (record class_of { methods = codes "1C_other" ∷ [] }) ≡ false) × (with_class (record class_of { traits = (codes "U", []) ∷ [] }) ≡ false) × (with_class (record class_of { traits = (codes "T", codes "1C_other" ∷ []) ∷ [] }) ≡ false)
others = (refl, refl, refl, refl)

twice_there : classes_fit (record { globals = []; classes = trait_of ∷ trait_of ∷ []; funcs = [] }) ≡ false
twice_there = refl

-- the trait of a call is there
no_trait : line_fits (code_of ending) variables Char (TraitCall 1 0 (codes "U") 0 []) ≡ false
no_trait = refl

-- a place is no negative number, and a part of a tuple may be one
no_place : (line_fits (code_of ending) variables Char (Call (Some 1) (codes "CPyAttr_Get") (arg.Var 0 ∷ arg.Number (negsuc 0) ∷ [])) ≡ false) × (line_fits (code_of ending) variables Char (Call (Some 1) (codes "CPyTuple_GetItemBorrow") (arg.Var 0 ∷ arg.Number (negsuc 0) ∷ [])) ≡ true)
no_place = (refl, refl)

-- ---- texts
class_texts : (class_line class_of ≡ codes "CPyClass CPyType_C = {\"C\", {{\"n\", CPyTagged}, {\"s\", PyObject *}}, {CPyDef_1C_text, CPyDef_1C_same}, {{CPyType_T, {CPyDef_1C_text}}, {CPyType_T, {CPyDef_1C_same, CPyDef_1C_same}}}};") × (class_line trait_of ≡ codes "CPyClass CPyType_T = {\"T\", {}, {}, {}};")
class_texts = (refl, refl)

method_texts : (statement_text variables (Virtual 1 0 0 []) ≡ codes "cpy_s = CPyVirtual(cpy_o, 0)") × (statement_text variables (TraitCall 2 0 (codes "T") 12 (2 ∷ 1 ∷ [])) ≡ codes "cpy_n = CPyTrait(cpy_o, CPyType_T, 12, cpy_n, cpy_s)")
unfolding digits
method_texts = (refl, refl)

-- classes stand between the globals and the functions
places_of_classes : code_text (record { globals = (codes "x", Tagged) ∷ []; classes = trait_of ∷ []; funcs = module_of [] ∷ [] }) ≡ codes "/* mypyc subset 1 */\nCPyTagged CPyStatic_x;\nCPyClass CPyType_T = {\"T\", {}, {}, {}};\nchar CPyModule(void) {\n    PyObject *cpy_o;\n    PyObject *cpy_s;\n    CPyTagged cpy_n;\n    char cpy_ok;\n}\n"
places_of_classes = refl
