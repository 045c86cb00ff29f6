-- Types of operands that are compared, and what the comparison of two does.
use Rattle.std.specs.Prelude.{Bool, true, false}
use Rattle.value_core.specs.Value.{Value}
use Rattle.py_syntax.specs.declared.expression.CmpOp.{CmpOp}
use Rattle.py_typed.specs.Fits.{is_number}
use Rattle.py_typed.specs.Sorts as sort
use Rattle.py_typed.specs.Sorts.{Sort}
use Rattle.source_meaning.specs.State.{Does}
use Rattle.source_meaning.specs.Operations.{holds}
use Rattle.ir_builder_operations.specs.declared.operation.Compared.{Compared}
use Rattle.ir_builder_operations.specs.declared.operation.Compared.TheVariants.{Ints, Natives, Texts}
use Rattle.ir_builder_operations.specs.Rows.{as_value}
use Rattle.ir_builder_expressions.specs.Parts.{is_text}
use Rattle.ir_builder_expressions.specs.declared.comparing.Kind.{Kind}
use Rattle.ir_builder_expressions.specs.declared.comparing.Kind.TheVariants as kind

abbrev pub kind_sort : Kind → Sort
kind_sort kind.Int = sort.Int
kind_sort kind.I64 = sort.I64
kind_sort kind.Bool = sort.Bool
kind_sort kind.Str = sort.Str

-- the register has the type of the operand, or is one of native integers for an `int` literal
abbrev pub is_shown_as : Sort → Sort → Bool
is_shown_as sort.Int sort.Int = true
is_shown_as sort.Int sort.I64 = true
is_shown_as sort.I64 sort.I64 = true
is_shown_as sort.Bool sort.Bool = true
is_shown_as sort.Str sort.Str = true
is_shown_as _ _ = false

-- what two operands are compared as, by the type of both: two bools as native integers
abbrev pub compared_in : Sort → Compared
compared_in sort.Int = Ints
compared_in sort.Str = Texts
compared_in _ = Natives

-- the types of operands that are brought there
abbrev pub is_brought : Compared → Sort → Bool
is_brought Texts s = is_text s
is_brought c s = is_number s

-- what the source finds, as a value
abbrev pub holds_as : CmpOp → Sort → Sort → Value → Value → Does Value
holds_as op s t v w = as_value (holds op s t v w)
