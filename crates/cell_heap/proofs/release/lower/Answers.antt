use Rattle.std.proofs.Common.{sym, ◌∙◌}
use Rattle.cell_heap.proofs.ReleaseLemmas.{last_gives}
use Rattle.cell_heap.proofs.release.lower.Goals as goal

pub returns-else-is_shared : goal.returns-else-is_shared
returns-else-is_shared c =
    last_gives c.args.cells.now c.condemn.new.self c.args.key c.is_shared.ensures.named (sym c.is_shared.ensures.shared ∙ c.if-is_shared.false) c.condemn.ensures.moved
