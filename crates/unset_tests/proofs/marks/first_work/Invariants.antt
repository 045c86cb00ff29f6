use Rattle.std.proofs.Common.{◌≡◌, ◌∷◌, false, take}
use Rattle.std.specs.List.{flat_map}
use Rattle.unset_tests.specs.Walk.{onward}
use Rattle.unset_tests.proofs.marks.first_work.Given as goal

abbrev pub invariant-loop-block : goal.invariant-loop-block
invariant-loop-block l = l.work.items ≡ 0 ∷ flat_map (λ b. onward l.regs l.r b false) (take l.block-index l.blocks)
