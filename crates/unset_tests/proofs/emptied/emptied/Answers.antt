use Rattle.std.proofs.Common.{rules, refl}
use Rattle.unset_tests.proofs.Emptying.{emptied_by}
use Rattle.unset_tests.proofs.emptied.emptied.Goals as goal

pub returns : goal.returns
returns c = record {
  alike = record { name = refl; params = refl; regs = refl; ret = refl };
  blocks = emptied_by c.args.f c.in_ok-reached.reached.items c.as_slice.result.now c.in_ok-blocks.blocks c.in_ok-reached.ensures c.as_slice.ensures.value c.in_ok-blocks.ensures;
  few = search rules;
}
