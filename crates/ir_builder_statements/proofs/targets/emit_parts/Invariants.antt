use Rattle.ir_builder_statements.proofs.Common.{drop, OwnLines, setting_of}
use Rattle.ir_builder_statements.proofs.TargetLemmas.{Unpacking}
use Rattle.ir_builder_statements.proofs.targets.emit_parts.Given as goal

-- so many parts were taken
abbrev pub invariant-loop-i : goal.invariant-loop-i
invariant-loop-i l = record {
  taken : Unpacking (setting_of l.site) l.targets (drop l.i l.targets) l.parts (drop l.i l.parts) l.i l.tuple.0 l.fn.b l.b l.values;
  lined : OwnLines l.site.line l.fn.b l.b;
}
