use Rattle.std.proofs.Common.{arith}
use Rattle.std.proofs.lemmas.Grind.{common_steps}
use Rattle.py_typed.proofs.TypeLemmas.{same_at_end}
use Rattle.class_layout_members.proofs.member.is_same_row.Goals as goal

pub returns : goal.returns
returns c = grind (arith, common_steps, same_at_end c.args.ts.now c.loop-i.i c.loop-i.invariant.within, c.loop-i.invariant.kept)
