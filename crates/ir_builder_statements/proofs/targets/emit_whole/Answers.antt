use Rattle.ir_builder_statements.proofs.Common.{sort, typed_target, Setting, setting_of, on_ok_map, extends_trans, room_on, around_by}
use Rattle.ir_builder_statements.proofs.TargetLemmas.{takes_fits, whole_binds}
use Rattle.ir_builder_statements.proofs.LinedLemmas.{pieces_behind}
use Rattle.ir_builder_statements.proofs.targets.emit_whole.Goals as goal

pub own_type-own-requires : goal.own_type-own-requires
own_type-own-requires c = (c.requires.target.0, c.requires.target.1)

pub emit_conversion-requires-clause-fits : goal.emit_conversion-requires-clause-fits
emit_conversion-requires-clause-fits c =
    let x : Setting = setting_of c.args.site in
    let fit = takes_fits x (typed_target c.args.target.now) (sort c.args.t.now) (sort c.own_type-own.result.now) c.requires.target c.own_type-own.ensures in
    (x.source.classes.classes, fit.0, fit.1)

pub emit_put-requires : goal.emit_put-requires
emit_put-requires c = record { takes = (sort c.own_type-own.result.now, c.own_type-own.ensures, c.in_ok-value.ensures.made.type); room = room_on (setting_of c.args.site) _ _ c.in_ok-value.ensures.kept c.requires.room }

pub returns-clause-kept : goal.returns-clause-kept
returns-clause-kept c = extends_trans _ _ _ c.in_ok-value.ensures.kept c.emit_put.ensures.kept

pub returns-clause-binds : goal.returns-clause-binds
returns-clause-binds c =
    let x : Setting = setting_of c.args.site in
    let own = sort c.own_type-own.result.now in
    let t = sort c.args.t.now in
    let target = typed_target c.args.target.now in
    on_ok_map _ _ _ (whole_binds x target t own c.own_type-own.ensures (takes_fits x target t own c.requires.target c.own_type-own.ensures).0 c.args.r.0 c.in_ok-value.value _ _ _ c.requires.room c.in_ok-value.ensures.made) c.emit_put.ensures.puts

pub returns-clause-lined : goal.returns-clause-lined
returns-clause-lined c = on_ok_map _ _ _ (pieces_behind (around_by c.args.site.line _ _ c.in_ok-value.ensures.kept c.in_ok-value.ensures.lined)) c.emit_put.ensures.lined
