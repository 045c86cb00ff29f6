use Rattle.std.proofs.Common.{refl}
use Rattle.unset_tests.proofs.Settling.{blocks_by}
use Rattle.unset_tests.proofs.functions.function_without.Goals as goal

pub returns : goal.returns
returns c = record {
  alike = record { name = refl; params = refl; regs = refl; ret = refl };
  blocks = blocks_by c.args.f.regs c.as_slice.result.now c.args.f.blocks c.as_slice-2.result.now c.in_ok-blocks.blocks c.in_ok-sure.sure.items c.as_slice-3.result.now c.as_slice.ensures c.as_slice-2.ensures c.in_ok-sure.ensures c.as_slice-3.ensures.value c.in_ok-blocks.ensures;
}
