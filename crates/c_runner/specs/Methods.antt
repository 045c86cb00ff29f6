-- Calls of methods, by the class of the object.
use Rattle.std.specs.Prelude.{ℕ, true, List, Option, Result, Ok, Err, slice_get}
use Rattle.std.specs.Option.{option_and_then}
use Rattle.c_core.specs.declared.code.CClass.{CClass}
use Rattle.c_core.specs.declared.code.Code.{Code}
use Rattle.c_core.specs.declared.fault.Fault.{Fault}
use Rattle.c_core.specs.declared.fault.Fault.TheVariants as fault
use Rattle.c_core.specs.Functions.{number_of}
use Rattle.c_core.specs.Machine.{MachineState}
use Rattle.c_core.specs.Step.{Next, Ends, Faulted, if_some, method_step}

-- the function that the class of a number has for a method, by how the method's entry is found in a class
abbrev pub function_for : Code → (CClass → Option (List ℕ)) → ℕ → Option ℕ
function_for code entry class = option_and_then (number_of code.funcs) (option_and_then entry (slice_get code.classes class))

-- the function of a number is called as a method, if there is one; the object is the first of these variables
abbrev pub method_begins : Code → ℕ → List ℕ → Option ℕ → MachineState → Next
method_begins code target args func s =
    if_some true s fault.Kind func (λ f. if_some true s fault.Kind (slice_get code.funcs f) (method_step true s code target args f))

-- a method is called of an object of the class of a number, or the run faults
abbrev pub class_calls : Code → ℕ → List ℕ → (CClass → Option (List ℕ)) → Result ℕ Fault → MachineState → Next
class_calls code target args entry (Ok class) s = method_begins code target args (function_for code entry class) s
class_calls code target args entry (Err why) s = Ends (Faulted why) s
