use Rattle.std.proofs.Common.{◌∙◌, ap}
use Rattle.ir_core.specs.Items.{in_block}
use Rattle.ir_core.specs.Meaning as spec
use Rattle.ir_core.proofs.KindLemmas.{no_second_test}
use Rattle.ir_core.proofs.kind.is_second_test.Goals as goal

pub returns-then-ops-ne1 : goal.returns-then-ops-ne1
returns-then-ops-ne1 c =
    no_second_test c.as_slice-ops.result.now c.args.block.now.last c.args.next c.if-ops-ne1.true
    ∙ ap (λ ops. spec.is_second_test (in_block ops c.args.block.now.last 0) (in_block ops c.args.block.now.last 1) c.args.next) c.as_slice-ops.ensures
