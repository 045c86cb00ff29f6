use Rattle.std.proofs.Common.{◌≡◌, ◌++◌, length, drop}
use Rattle.ir_core.specs.Items.{item_in}
use Rattle.liveness.specs.Apart.{begin}
use Rattle.liveness.proofs.ApartLemmas.{kept_from}
use Rattle.liveness.proofs.apart.push_places.Given as goal

abbrev pub invariant-loop-i : goal.invariant-loop-i
invariant-loop-i l =
    l.pieces.items ++ kept_from (item_in l.f.blocks) l.f.regs (begin l.layout) l.handler (length l.pieces.items) (drop l.i l.block.ops) l.block.last ≡ l.initial.pieces.items ++ kept_from (item_in l.f.blocks) l.f.regs (begin l.layout) l.handler (length l.initial.pieces.items) l.block.ops l.block.last
