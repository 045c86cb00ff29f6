use Rattle.ir_builder.proofs.Common.{◌≤◌, ℕ, AllFit, Filled}
use Rattle.ir_builder_frames.specs.Lines.{OwnLines}
use Rattle.ir_builder.proofs.body.fill.Given as goal

abbrev pub invariant-loop-k : goal.invariant-loop-k
invariant-loop-k l = record {
  filled : Filled l.initial.b l.b l.from l.k l.to;
  within : (m : ℕ) → l.to ≤ m → AllFit m 0 l.initial.b.blocks → AllFit m 0 l.b.blocks;
  lined : (n : ℕ) → OwnLines n l.initial.b l.b;
}
