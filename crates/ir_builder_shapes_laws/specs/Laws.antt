-- What holds of every program that is built.
use Rattle.ir_core.specs.declared.code.Program.{Program}
use Rattle.ir_core.specs.Shape.{Shape}
use Rattle.ir_builder_shapes_laws.specs.Built.{IsProgram}

-- it has its shape, so that its C text is well formed
abbrev pub BuiltHasShape : Type 0
BuiltHasShape = (p : Program) → IsProgram p → Shape p
