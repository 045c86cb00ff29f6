-- What is asked of a module that is built: it is well typed, the bodies of its functions and its own statements suit, and names are as
-- C text wants them.
use Rattle.std.specs.Prelude.{◌≡◌, ◌≤◌, ℕ, true, false, List, [], length, map, Some, None, slice_get}
use Rattle.std.specs.List.{list_all}
use Rattle.c_core.specs.WellFormed.{is_identifier, names_differ}
use Rattle.py_typed.specs.Statements.{Variable, TypedFunc, TypedModule}
use Rattle.py_typed.specs.WellTypedModule.{is_well_typed}
use Rattle.ir_builder_statements.specs.Suiting.{SuiteSuits}

abbrev pub variable_names : List Variable → List (List ℕ)
variable_names vs = map (λ v. v.0) vs

pub record FunctionSuits (m : TypedModule) (f : TypedFunc) : Type 0 where
  pub name : is_identifier f.name ≡ true
  pub parameters : f.params ≤ length f.locals
  pub identifiers : list_all is_identifier (variable_names f.locals) ≡ true
  pub differ : names_differ (variable_names f.locals) ≡ true
  pub body : SuiteSuits m f.locals (Some f.ret) false f.body

pub record ModuleSuits (m : TypedModule) : Type 0 where
  pub well_typed : is_well_typed is_identifier m ≡ true
  pub functions : (n : ℕ) (f : TypedFunc) → slice_get m.funcs n ≡ Some f → FunctionSuits m f
  pub differ : names_differ (map (λ (f : TypedFunc). f.name) m.funcs) ≡ true
  pub identifiers : list_all is_identifier (variable_names m.globals) ≡ true
  pub globals_differ : names_differ (variable_names m.globals) ≡ true
  pub top : SuiteSuits m [] None false m.top
