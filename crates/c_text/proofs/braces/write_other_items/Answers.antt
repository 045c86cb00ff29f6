use Rattle.std.proofs.Common.{refl}
use Rattle.c_text.specs.Braces.{next_item}
use Rattle.c_text.proofs.Writing.{all, broken, more}
use Rattle.c_text.proofs.braces.write_other_items.Goals as goal

pub returns-in_err-write : goal.returns-in_err-write
returns-in_err-write g c =
    broken (next_item g.P.Item.shown) _ _ _ _ _ _ refl c.loop-other-test.true c.other-item.is c.from_residual.ensures.0 c.loop-other.invariant c.in_err-write.ensures

pub loop-other-preserved : goal.loop-other-preserved
loop-other-preserved g c =
    more (next_item g.P.Item.shown) _ _ _ _ c.loop-other-test.true c.other-item.is c.loop-other.invariant c.in_ok-write.ensures

pub returns : goal.returns
returns g c = all (next_item g.P.Item.shown) _ _ _ refl c.loop-other-test.false c.loop-other.invariant
