use Rattle.std.proofs.Common.{◌≡◌, ◌<◌, ℕ, true, false, length, Some, get_or}
use Rattle.std.specs.Prelude.{slice_get}
use Rattle.ir_core.specs.declared.code.Block.{Block}
use Rattle.unset_tests.specs.Walk.{is_test_of}
use Rattle.unset_tests.proofs.sure.tested_registers.Given as goal

abbrev pub invariant-loop-block : goal.invariant-loop-block
invariant-loop-block l = record {
  size : length l.tested.items ≡ l.count;
  tests : (k r : ℕ) (b : Block) → k < l.block-index → slice_get l.blocks k ≡ Some b → is_test_of r b ≡ true → r < l.count → get_or l.tested.items r false ≡ true;
}
