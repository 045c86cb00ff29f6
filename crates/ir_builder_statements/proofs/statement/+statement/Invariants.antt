use Rattle.ir_builder_statements.proofs.Common.{option_map, option_copied, sort, ◌+◌, ◌*◌, max, List, map, drop, size-TStmt, typed_module, typed_suite, typed_arm, arms_of, variable, Building, Extends, Exit, HasRoom, means_suite, Emitted, SuiteSuits, ArmsSuit, GivesResult, setting_of, ℕ}
use denote.Param.Weighed.{most}
use Rattle.ir_builder_loops_and_jumps.specs.Tested.{Tested}
use Rattle.ir_builder_statements.proofs.SizeLemmas.{arm_size}
use Rattle.ir_builder_statements.proofs.LinedLemmas.{SuiteRest, PiecesRest, pieces_of_arms}
use Rattle.ir_builder_statements.proofs.statement.+statement.Given as goal

abbrev pub decreases-emit_statement : goal.decreases-emit_statement
decreases-emit_statement l = size-TStmt l.s.now * 4

abbrev pub decreases-emit_block : goal.decreases-emit_block
decreases-emit_block l = most size-TStmt l.body.now * 4 + 1

abbrev pub decreases-emit_arms : goal.decreases-emit_arms
decreases-emit_arms l = most arm_size l.arms.now * 4 + 2

abbrev pub decreases-emit_loop : goal.decreases-emit_loop
decreases-emit_loop l = most size-TStmt l.body.now * 4 + 2

abbrev pub decreases-emit_if : goal.decreases-emit_if
decreases-emit_if l = max (most arm_size l.arms.now) (most size-TStmt l.other.now) * 4 + 3

abbrev pub invariant-emit_block-loop-s : goal.invariant-emit_block-loop-s
invariant-emit_block-loop-s l = record {
  so_far : (end : Building) (zs : List Exit) → Emitted (setting_of l.site) (option_map sort (option_copied l.gives)) l.looping (means_suite (setting_of l.site) (typed_suite (drop l.s-index l.body))) l.b end l.exits.items zs → Emitted (setting_of l.site) (option_map sort (option_copied l.gives)) l.looping (means_suite (setting_of l.site) (typed_suite l.body)) l.fn.b end l.fn.exits.items zs;
  kept : Extends l.fn.b l.b;
  suits : SuiteSuits (typed_module l.site.checked.now) (map variable l.site.locals.now) (option_map sort (option_copied l.gives)) l.looping (typed_suite (drop l.s-index l.body));
  room : HasRoom (setting_of l.site) l.b;
  result : GivesResult (option_map sort (option_copied l.gives)) l.b.among;
  lined : SuiteRest (setting_of l.site) (typed_suite l.body) (typed_suite (drop l.s-index l.body)) l.fn.b l.b;
}

abbrev pub invariant-emit_arms-loop-e : goal.invariant-emit_arms-loop-e
invariant-emit_arms-loop-e l = record {
  so_far : Tested (setting_of l.site) (option_map sort (option_copied l.gives)) l.looping (drop l.e-index l.arms) l.arms l.fn.b l.b l.exits.items;
  suits : ArmsSuit (typed_module l.site.checked.now) (map variable l.site.locals.now) (option_map sort (option_copied l.gives)) l.looping (arms_of (map typed_arm (drop l.e-index l.arms)));
  room : HasRoom (setting_of l.site) l.b;
  lined : (k : ℕ) → PiecesRest (setting_of l.site) k (pieces_of_arms l.arms) (pieces_of_arms (drop l.e-index l.arms)) l.fn.b l.b;
}
