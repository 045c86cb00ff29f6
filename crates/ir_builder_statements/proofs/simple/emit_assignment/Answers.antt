use Rattle.ir_builder_statements.proofs.Common.{subst, sym, map, extends_trans, Sort, typed_expr, typed_target, type_of, type_at, sort, rtype_of, HasType, on_ok_map, room_on, Setting, setting_of, TargetsSuit, None}
use Rattle.ir_builder_statements.specs.Counting.{Binds}
use Rattle.ir_builder_statements.proofs.TargetLemmas.{assigned_works}
use Rattle.ir_builder_statements.proofs.LinedLemmas.{value_then}
use Rattle.ir_builder_statements.proofs.simple.emit_assignment.Goals as goal

pub emit_targets-requires : goal.emit_targets-requires
emit_targets-requires c =
    let x : Setting = setting_of c.args.site in
    let P : Sort → Type 0 = λ z. TargetsSuit x.source x.variables None (map typed_target c.args.targets.now) z in
    let Q : Sort → Type 0 = λ z. HasType c.emit_expression.new.b c.in_ok-r.r.0 (rtype_of z) in
    record { targets = subst P (type_at c.args.e.now) c.requires.targets; value = subst Q (type_at c.args.e.now) c.in_ok-r.ensures.emitted.type; room = room_on x _ _ c.in_ok-r.ensures.kept c.requires.room }

pub returns-clause-works : goal.returns-clause-works
returns-clause-works c =
    let x : Setting = setting_of c.args.site in
    let P : Sort → Type 0 = λ z. Binds x (map typed_target c.args.targets.now) z c.in_ok-r.r.0 c.emit_expression.new.b c.emit_targets.new.b in
    on_ok_map _ _ _ (λ q. assigned_works x (map typed_target c.args.targets.now) (typed_expr c.args.e.now) _ _ _ c.in_ok-r.r.0 c.requires.room c.in_ok-r.ensures.emitted (subst P (sym (type_at c.args.e.now)) q)) c.emit_targets.ensures.binds

pub returns-clause-lined : goal.returns-clause-lined
returns-clause-lined c =
    let e = typed_expr c.args.e.now in
    on_ok_map _ _ _ (value_then (setting_of c.args.site) c.args.site.line e _ _ _ _ (type_of e, c.in_ok-r.r.0, c.in_ok-r.ensures.emitted) c.in_ok-r.ensures.lined) c.emit_targets.ensures.lined

pub returns-clause-kept : goal.returns-clause-kept
returns-clause-kept c = extends_trans _ _ _ c.in_ok-r.ensures.kept c.emit_targets.ensures.kept
