-- What holds of every module that is compiled.
use Rattle.std.specs.Prelude.{◌≡◌, true, None}
use Rattle.c_core.specs.WellFormed.{is_identifier}
use Rattle.py_syntax.specs.Statements.{Suite}
use Rattle.py_typed.specs.Statements.{TypedModule}
use Rattle.py_typed.specs.WellTypedModule.{is_well_typed}
use Rattle.ir_builder_statements.specs.Modules.{ModuleSuits}
use Rattle.ir_builder_supported.specs.Statements.{uncompiled_form}

-- a well typed module all of which is compiled is one that is built
abbrev pub CompiledSuits : Type 0
CompiledSuits = (m : Suite) (t : TypedModule) → is_well_typed is_identifier t ≡ true → uncompiled_form m t ≡ None → ModuleSuits t
