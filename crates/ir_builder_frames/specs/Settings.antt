-- What a part of a function is built for: the module, the function's variables, and the registers that stand for them.
use Rattle.std.specs.Prelude.{ℕ, List, map, take}
use Rattle.py_typed.specs.declared.checked.Checked.{Checked}
use Rattle.py_typed.specs.declared.checked.Var.{Var}
use Rattle.py_typed.specs.Sorts as sort
use Rattle.py_typed.specs.Sorts.{Sort}
use Rattle.py_typed.specs.Statements.{Variable, TypedFunc, TypedModule, typed_module, variable}
use Rattle.ir_core.specs.declared.code.RType.{RType}
use Rattle.ir_core.specs.declared.code.RType.TheVariants.{Int, I64, Bool, Ref}
use Rattle.ir_builder_frames.specs.declared.frame.Frame.{Frame}

pub record Setting : Type 0 where
  pub source : TypedModule
  pub variables : List Variable
  pub frame : Frame

abbrev pub setting : Checked → List Var → Frame → Setting
setting m locals frame = record { source = typed_module m; variables = map variable locals; frame = frame }

-- the type of the registers for values of a type
abbrev pub rtype_of : Sort → RType
rtype_of sort.Int = Int
rtype_of sort.I64 = I64
rtype_of sort.Bool = Bool
rtype_of _ = Ref

-- a variable as a register or a global, under its name
abbrev pub register_of : Variable → List ℕ × RType
register_of v = (v.0, rtype_of v.1)

abbrev pub variable_registers : List Variable → List (List ℕ × RType)
variable_registers vs = map register_of vs

-- the types of a function's parameters
abbrev pub parameter_sorts : TypedFunc → List Sort
parameter_sorts f = map (λ (v : Variable). v.1) (take f.params f.locals)
