-- What a function is built among: the functions that it may call and the variables of its module.
use Rattle.std.specs.Prelude.{◌≡◌, ℕ, List, map, Some, slice_get}
use Rattle.py_typed.specs.Statements.{TypedFunc, TypedModule}
use Rattle.ir_core.specs.declared.code.RType.{RType}
use Rattle.ir_core.specs.Rows.{Declared}
use Rattle.ir_builder_frames.specs.Settings.{rtype_of, variable_registers, parameter_sorts}

-- what a function takes and gives
pub record FunctionType : Type 0 where
  pub params : List RType
  pub ret : RType

-- the functions that may be called, by their numbers; the program's globals; how many of the registers are variables; and the type
-- of the result
pub record Surrounding : Type 0 where
  pub heads : List FunctionType
  pub globals : Declared
  pub variables : ℕ
  pub ret : RType

-- the head of a function
abbrev pub head_of : TypedFunc → FunctionType
head_of f = record { params = map rtype_of (parameter_sorts f); ret = rtype_of f.ret }

abbrev pub heads_of : TypedModule → List FunctionType
heads_of m = map head_of m.funcs

-- what a function of a module with so many variables and a result of a type is built among
abbrev pub surrounding : TypedModule → ℕ → RType → Surrounding
surrounding m n t = record { heads = heads_of m; globals = variable_registers m.globals; variables = n; ret = t }

-- the functions of a module have their heads; the globals are the module's variables
pub record IsAmong (m : TypedModule) (g : Surrounding) : Type 0 where
  pub globals : g.globals ≡ variable_registers m.globals
  pub heads : (n : ℕ) (f : TypedFunc) → slice_get m.funcs n ≡ Some f → slice_get g.heads n ≡ Some (head_of f)
