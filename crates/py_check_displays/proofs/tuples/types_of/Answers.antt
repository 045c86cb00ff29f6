use Rattle.std.proofs.Common.{map}
use Rattle.py_typed.specs.Expressions.{typed_expr, type_of}
use Rattle.py_check_displays.proofs.DisplayLemmas.{types_end}
use Rattle.py_check_displays.proofs.tuples.types_of.Goals as goal

pub returns : goal.returns
returns c = types_end c.loop-e.ts c.args.es.now c.loop-e.e-index (map type_of (map typed_expr c.args.es.now)) c.loop-e-test.false c.loop-e.invariant
