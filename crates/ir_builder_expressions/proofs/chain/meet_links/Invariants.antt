use Rattle.ir_builder_expressions.proofs.Common.{ℕ, length, Building, HasType, Pending, Ended}
use Rattle.ir_core.specs.declared.code.RType.TheVariants.{Bool}
use Rattle.ir_builder_frames.specs.Lines.{OwnLines}
use Rattle.ir_builder_expressions.proofs.chain.meet_links.Given as goal

abbrev pub invariant-loop-link : goal.invariant-loop-link
invariant-loop-link l = record {
  pending : (a : Building) → Pending a l.fn.links l.fn.b → Pending a l.rest l.b;
  flag : HasType l.b l.r.0 Bool;
  ends : (c : Building) (q : ℕ) → Ended l.rest l.b l.r.0 c q → Ended l.fn.links l.fn.b l.fn.last.0 c q;
  lined : OwnLines l.fn.line l.fn.b l.b;
}

abbrev pub decreases-loop-link : goal.decreases-loop-link
decreases-loop-link l = length l.rest
