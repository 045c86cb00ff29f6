use Rattle.std.proofs.Common.{◌≡◌, ◌++◌, length, drop}
use Rattle.ir_core.specs.Items.{item_in}
use Rattle.liveness.specs.Apart.{begin}
use Rattle.liveness.proofs.ApartLemmas.{kept_of}
use Rattle.liveness.proofs.apart.kept_pieces.Given as goal

abbrev pub invariant-loop-block : goal.invariant-loop-block
invariant-loop-block l =
    l.pieces.items ++ kept_of (item_in l.f.blocks) l.f.regs (begin l.layout) (length l.pieces.items) (drop l.block-index l.f.blocks) ≡ kept_of (item_in l.f.blocks) l.f.regs (begin l.layout) 0 l.f.blocks
