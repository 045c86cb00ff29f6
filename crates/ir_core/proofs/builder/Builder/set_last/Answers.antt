use Rattle.std.proofs.Common.{ap, ◌∙◌}
use Rattle.ir_core.specs.declared.code.Block.{Block}
use Rattle.ir_core.specs.Building.{Building, with_last}
use Rattle.ir_core.proofs.BlockLemmas.{changed_is}
use Rattle.ir_core.proofs.builder.Builder.set_last.Goals as goal

pub returns : goal.returns
returns c =
    ap (λ l. record { name = c.self.inside.name; regs = c.self.inside.regs.items; blocks = l; ops = c.self.inside.ops.items }) (changed_is (λ (b : Block). record b { last = c.args.last }) _ c.args.block c.index_mut.result.now c.index_mut.ensures.value)
    ∙ ap (λ (v : Building). record v { blocks = with_last v.blocks c.args.block c.args.last }) c.self.view_is
