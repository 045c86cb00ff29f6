use Rattle.ir_builder_statements.proofs.Common.{Reg, ok_map, on_ok_map, setting_of, always, around_by}
use Rattle.ir_builder_statements.specs.Counting.{number_sort}
use Rattle.ir_builder_statements.proofs.ForLemmas.{start_given, start_none}
use Rattle.ir_builder_statements.proofs.LinedLemmas.{none_lined, one_lined}
use Rattle.ir_builder_statements.proofs.ranges.emit_start.Goals as goal

pub returns-in-Some-clause-computes : goal.returns-in-Some-clause-computes
returns-in-Some-clause-computes c =
    ok_map _ _ _ (λ (r : Reg) made. start_given (setting_of c.args.site) (number_sort c.args.native) c.args.start.now c.in-Some.e c.args.b.now c.emit_kept.new.b r.0 c.in-Some.is c.requires.suits made) c.emit_kept.ensures.computes

pub returns-in-None-clause-computes : goal.returns-in-None-clause-computes
returns-in-None-clause-computes c =
    ok_map _ _ _ (λ (r : Reg) made. start_none (setting_of c.args.site) c.args.native c.args.start.now c.args.b.now c.emit_number.new.b r.0 c.in-None.is made) c.emit_number.ensures.made

pub returns-in-Some-clause-lined : goal.returns-in-Some-clause-lined
returns-in-Some-clause-lined c =
    on_ok_map _ _ _ (one_lined (setting_of c.args.site) c.args.site.line c.args.start.now c.in-Some.e _ _ c.in-Some.is) c.emit_kept.ensures.lined

pub returns-in-None-clause-lined : goal.returns-in-None-clause-lined
returns-in-None-clause-lined c =
    let l = c.args.site.line in
    always _ _ (none_lined (setting_of c.args.site) l c.args.start.now _ _ c.in-None.is (around_by l _ _ c.emit_number.ensures.kept c.emit_number.ensures.lined))
