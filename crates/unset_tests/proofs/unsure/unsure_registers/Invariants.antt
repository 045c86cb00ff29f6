use Rattle.std.proofs.Common.{◌≡◌, ◌<◌, ℕ, true, false, length, Some, get_or}
use Rattle.std.specs.Prelude.{slice_get}
use Rattle.ir_core.specs.declared.code.Block.{Block}
use Rattle.unset_tests.specs.Walk.{leave_unset}
use Rattle.unset_tests.proofs.unsure.unsure_registers.Given as goal

abbrev pub invariant-loop-block : goal.invariant-loop-block
invariant-loop-block l = record {
  size : length l.unsure.items ≡ length l.regs;
  marks : (k r : ℕ) (b : Block) → k < l.block-index → slice_get l.blocks k ≡ Some b → leave_unset l.regs r b.ops ≡ true → r < length l.regs → get_or l.unsure.items r false ≡ true;
}
