use Rattle.std.proofs.Common.{map, arith}
use Rattle.std.proofs.lemmas.Grind.{common_steps}
use Rattle.py_typed.specs.Classes.{class_entry}
use Rattle.py_typed.proofs.TypeLemmas.{also_at_end}
use Rattle.py_typed.proofs.fitting.+also.Goals as goal

pub are_also-returns : goal.are_also-returns
are_also-returns t c = grind (arith, common_steps, also_at_end (map class_entry c.args.classes.now) c.args.ss.now c.loop-i.i c.loop-i.invariant.within, c.loop-i.invariant.kept)
