-- Small runs with lists, boxes and tuples, computed: what is written, which cells are left, and which faults come.
use Rattle.std.proofs.Common.{◌≡◌, refl, true, false, List, [], ◌∷◌, replicate, Option, Some, None}
use Rattle.std.specs.Prelude.{ℕ, ℤ, pos, negsuc, Bool, codes}
use Rattle.std.specs.Option.{option_map}
use Rattle.value_core.specs.declared.exception.ExcClass.TheVariants.{IndexError}
use Rattle.value_core.specs.Ending.{Done, Raised}
use Rattle.value_core.specs.Exceptions.{thrown}
use Rattle.value_core.specs.Items.{Eof}
use Rattle.c_core.specs.declared.code.Kind.TheVariants.{Tagged, Char, Object}
use Rattle.c_core.specs.declared.code.CLit.TheVariants.{Number}
use Rattle.c_core.specs.declared.code.CArg.TheVariants as arg
use Rattle.c_core.specs.declared.code.Line.{Line}
use Rattle.c_core.specs.declared.code.Line.TheVariants.{Lit, Call, Return, Inc, Dec}
use Rattle.c_core.specs.declared.code.CFunc.{CFunc}
use Rattle.c_core.specs.declared.code.Code.{Code}
use Rattle.c_core.specs.declared.fault.Fault.TheVariants as fault
use Rattle.c_core.specs.Cells.{Cells}
use Rattle.c_core.specs.Machine.{Content, ListCell, ExcCell, ObjectCell}
use Rattle.c_core.specs.Step.{MachineEnding, Ended, Faulted}
use Rattle.c_core.specs.Run.{Stop, machine_run}
use Rattle.c_core.specs.WellFormed.{function_fits}

-- a module with a list, an item, an index and a truth
abbrev module_of : List Line → CFunc
module_of lines = record {
  name = [];
  ret = Char;
  params = 0;
  vars = (codes "l", Object) ∷ (codes "v", Object) ∷ (codes "i", Tagged) ∷ (codes "ok", Char) ∷ [];
  lines = lines;
}

abbrev code_of : List Line → Code
code_of lines = record { globals = []; classes = []; funcs = module_of lines ∷ [] }

abbrev list : Line
list = Call (Some 0) (codes "CPyList_New") []

abbrev text : List ℕ → Line
text t = Call (Some 1) (codes "CPyStr_Literal") (arg.Text t ∷ [])

abbrev append : Line
append = Call None (codes "CPyList_Append") (arg.Var 0 ∷ arg.Var 1 ∷ [])

abbrev first : Line
first = Lit 2 (Number (pos 0))

abbrev get : Line
get = Call (Some 1) (codes "CPyList_GetItem") (arg.Var 0 ∷ arg.Var 2 ∷ [])

abbrev set : Line
set = Call (Some 3) (codes "CPyList_SetItem") (arg.Var 0 ∷ arg.Var 2 ∷ arg.Var 1 ∷ [])

abbrev pop : Line
pop = Call (Some 1) (codes "CPyList_Pop") (arg.Var 0 ∷ [])

abbrev write : Line
write = Call None (codes "CPy_Write") (arg.Var 1 ∷ [])

abbrev ending : List Line
ending = Lit 3 (Number (pos 1)) ∷ Return 3 ∷ []

-- how a run ends, what it writes, the cells that it leaves and the numbers of its objects
abbrev seen : Option Stop → Option (MachineEnding × List ℕ × Cells Content × List ℕ)
seen r = option_map (λ stop. (stop.ending, stop.state.output, stop.state.cells, stop.state.made)) r

-- a text is put into a list, read and written; another one takes its place, is taken out and written
abbrev all_of_it : List Line
all_of_it =
    list ∷ text (codes "a") ∷ append ∷ first ∷ get ∷ write ∷ Dec 1 ∷ text (codes "b") ∷ set ∷ pop ∷ write ∷ Dec 1 ∷ Dec 0 ∷ ending

fits : function_fits (code_of all_of_it) (module_of all_of_it) ≡ true
fits = refl

run : seen (machine_run 0 Eof (code_of all_of_it)) ≡ Some (Ended Done, codes "ab", None ∷ None ∷ None ∷ [], 0 ∷ [])
run = refl

-- the item that was read is owned beside the list
item_left : seen (machine_run 0 Eof (code_of (list ∷ text (codes "a") ∷ append ∷ first ∷ get ∷ Dec 0 ∷ write ∷ Dec 1 ∷ ending))) ≡ Some (Ended Done, codes "a", None ∷ None ∷ [], 0 ∷ [])
item_left = refl

-- what was put into a list goes with it
item_gone : option_map (λ stop. stop.ending) (machine_run 0 Eof (code_of (list ∷ text (codes "a") ∷ append ∷ Dec 0 ∷ write ∷ ending))) ≡ Some (Faulted fault.Dead)
item_gone = refl

-- what is put into a list is owned no more
taken_twice : option_map (λ stop. stop.ending) (machine_run 0 Eof (code_of (list ∷ text (codes "a") ∷ append ∷ append ∷ ending))) ≡ Some (Faulted fault.NotOwned)
taken_twice = refl

-- a list in itself stays, held by itself
abbrev append_itself : Line
append_itself = Call None (codes "CPyList_Append") (arg.Var 0 ∷ arg.Var 0 ∷ [])

in_itself : seen (machine_run 0 Eof (code_of (list ∷ Inc 0 ∷ append_itself ∷ Dec 0 ∷ ending))) ≡ Some (Ended Done, [], Some (record { count = 1; content = ListCell (ObjectCell 0 ∷ []) }) ∷ [], 0 ∷ [])
in_itself = refl

-- an index from the end
abbrev last : Line
last = Lit 2 (Number (negsuc 1))

last_read : seen (machine_run 0 Eof (code_of (list ∷ text (codes "a") ∷ append ∷ text (codes "b") ∷ append ∷ last ∷ get ∷ write ∷ Dec 1 ∷ Dec 0 ∷ ending))) ≡ Some (Ended Done, codes "b", None ∷ None ∷ None ∷ [], 0 ∷ [])
last_read = refl

-- an item for which there is no place is given up, and the exception stays
set_nowhere : seen (machine_run 0 Eof (code_of (list ∷ text (codes "a") ∷ first ∷ set ∷ Dec 0 ∷ Return 3 ∷ []))) ≡ Some (Ended (Raised (thrown IndexError (codes "list assignment index out of range"))), [], None ∷ None ∷ Some (record { count = 1; content = ExcCell (thrown IndexError (codes "list assignment index out of range")) }) ∷ [], 0 ∷ [])
set_nowhere = refl

pop_nothing : option_map (λ stop. stop.ending) (machine_run 0 Eof (code_of (list ∷ pop ∷ Dec 0 ∷ Return 3 ∷ []))) ≡ Some (Ended (Raised (thrown IndexError (codes "pop from empty list"))))
pop_nothing = refl

-- ---- boxes
abbrev box : Line
box = Call (Some 1) (codes "CPyTagged_Box") (arg.Var 2 ∷ [])

abbrev unbox : Line
unbox = Call (Some 2) (codes "CPyTagged_Unbox") (arg.Var 1 ∷ [])

short_boxed : seen (machine_run 0 Eof (code_of (first ∷ box ∷ unbox ∷ Dec 1 ∷ ending))) ≡ Some (Ended Done, [], None ∷ [], [])
short_boxed = refl

-- ---- tuples
abbrev pack : ℕ → Line
pack n = Call (Some 0) (codes "CPyTuple_Pack") (replicate n (arg.Var 1))

abbrev part : ℤ → Line
part n = Call (Some 1) (codes "CPyTuple_GetItem") (arg.Var 0 ∷ arg.Number n ∷ [])

part_read : seen (machine_run 0 Eof (code_of (text (codes "a") ∷ pack 1 ∷ part (pos 0) ∷ write ∷ Dec 1 ∷ Dec 0 ∷ ending))) ≡ Some (Ended Done, codes "a", None ∷ None ∷ [], [])
part_read = refl

packed_twice : option_map (λ stop. stop.ending) (machine_run 0 Eof (code_of (text (codes "a") ∷ pack 2 ∷ ending))) ≡ Some (Faulted fault.NotOwned)
packed_twice = refl

part_before : option_map (λ stop. stop.ending) (machine_run 0 Eof (code_of (text (codes "a") ∷ pack 1 ∷ part (negsuc 0) ∷ ending))) ≡ Some (Faulted fault.Kind)
part_before = refl

-- a tuple has 1 to 16 parts
abbrev fits_of : ℕ → Bool
fits_of n = function_fits (code_of (pack n ∷ ending)) (module_of (pack n ∷ ending))

sizes : (fits_of 0 ≡ false) × (fits_of 1 ≡ true) × (fits_of 16 ≡ true) × (fits_of 17 ≡ false)
sizes = (refl, refl, refl, refl)
