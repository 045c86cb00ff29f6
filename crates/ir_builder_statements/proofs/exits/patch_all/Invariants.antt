use Rattle.ir_builder_statements.proofs.Common.{◌≡◌, ℕ, length, drop, all_jumping, planned, OwnLines}
use Rattle.ir_builder_statements.proofs.exits.patch_all.Given as goal

abbrev pub invariant-loop-exit : goal.invariant-loop-exit
invariant-loop-exit l = record {
  jumps : all_jumping (planned l.plan) (drop l.exit-index l.exits) l.b ≡ all_jumping (planned l.plan) l.exits l.initial.b;
  blocks : length l.b.blocks ≡ length l.initial.b.blocks;
  lined : (k : ℕ) → OwnLines k l.initial.b l.b;
}
