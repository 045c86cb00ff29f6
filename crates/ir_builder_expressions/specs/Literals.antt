-- The literal of a bool: 1 where it is true, and else 0.
use Rattle.std.specs.Prelude.{pos, Bool, true, false}
use Rattle.ir_core.specs.declared.code.Lit.{Lit}
use Rattle.ir_core.specs.declared.code.Lit.TheVariants.{Number}

abbrev pub literal_of_truth : Bool → Lit
literal_of_truth true = Number (pos 1)
literal_of_truth false = Number (pos 0)
