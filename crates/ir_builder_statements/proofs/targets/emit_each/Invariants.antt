use Rattle.ir_builder_statements.proofs.Common.{drop, setting_of}
use Rattle.ir_builder_statements.proofs.TargetLemmas.{Putting}
use Rattle.ir_builder_statements.proofs.targets.emit_each.Given as goal

-- so many targets were written
abbrev pub invariant-loop-i : goal.invariant-loop-i
invariant-loop-i l = Putting (setting_of l.site) l.site.line l.targets (drop l.i l.targets) l.values (drop l.i l.values) l.fn.b l.b
