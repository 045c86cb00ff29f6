use Rattle.std.proofs.Common.{arith}
use Rattle.std.proofs.lemmas.Grind.{common_steps}
use Rattle.py_typed.proofs.TypeLemmas.{same_at_end}
use Rattle.py_typed.proofs.fitting.+one.Goals as goal

pub are_same_types-returns : goal.are_same_types-returns
are_same_types-returns t c = grind (arith, common_steps, same_at_end c.args.ts.now c.loop-i.i c.loop-i.invariant.within, c.loop-i.invariant.kept)
