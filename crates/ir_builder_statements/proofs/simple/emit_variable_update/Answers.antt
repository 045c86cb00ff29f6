use Rattle.ir_builder_statements.proofs.Common.{None, refl, ap, subst, sym, sort, type_of, typed_expr, typed_target, Setting, IsRead, UpdateSuits, extends_trans, on_ok_map, setting_of, Span, always, around_both, around_by, reading_of}
use Rattle.ir_builder_statements.proofs.AssignLemmas.{own_updates, update_code, update_takes}
use Rattle.ir_builder_statements.proofs.LinedLemmas.{update_pieces}
use Rattle.ir_builder_statements.proofs.simple.emit_variable_update.Goals as goal

pub emit_updated-requires : goal.emit_updated-requires
emit_updated-requires c =
    let x : Setting = setting_of c.args.site in
    let target = typed_target c.args.target.now in
    let t = sort c.args.t.now in
    let w = type_of (typed_expr c.args.e.now) in
    let u = own_updates x.source x.variables target c.args.op (sort c.variable_type-own.result.now) t w c.variable_type-own.ensures c.requires.fits in
    record {
      variable = subst (IsRead x.source x.variables None target) (sym c.bare_type-read.ensures) u.0;
      fits = subst (λ z. UpdateSuits x.source x.variables None c.args.op z t w) (sym c.bare_type-read.ensures) u.1;
      suits = c.requires.suits;
      room = c.requires.room;
    }

pub emit_conversion-requires-clause-fits : goal.emit_conversion-requires-clause-fits
emit_conversion-requires-clause-fits c =
    let x : Setting = setting_of c.args.site in
    let u = own_updates x.source x.variables (typed_target c.args.target.now) c.args.op (sort c.variable_type-own.result.now) (sort c.args.t.now) (type_of (typed_expr c.args.e.now)) c.variable_type-own.ensures c.requires.fits in
    (x.source.classes.classes, u.2, u.3)

pub returns-in_err-value-clause-kept : goal.returns-in_err-value-clause-kept
returns-in_err-value-clause-kept c = extends_trans _ _ _ c.in_ok-result.ensures.kept c.in_err-value.ensures.kept

pub emit_set-requires : goal.emit_set-requires
emit_set-requires c =
    update_takes (setting_of c.args.site) (typed_target c.args.target.now) (sort c.variable_type-own.result.now) _ _ c.in_ok-value.value.0 c.variable_type-own.ensures c.requires.room (extends_trans _ _ _ c.in_ok-result.ensures.kept c.in_ok-value.ensures.kept) c.in_ok-value.ensures.made.type

pub returns-clause-kept : goal.returns-clause-kept
returns-clause-kept c = extends_trans _ _ _ (extends_trans _ _ _ c.in_ok-result.ensures.kept c.in_ok-value.ensures.kept) c.emit_set.ensures.kept

pub returns-clause-works : goal.returns-clause-works
returns-clause-works c =
    let x : Setting = setting_of c.args.site in
    let target = typed_target c.args.target.now in
    let own = sort c.variable_type-own.result.now in
    let t = sort c.args.t.now in
    let e = typed_expr c.args.e.now in
    let place : Span = record { line = c.args.site.line; col = c.args.e.now.span.col } in
    let u = own_updates x.source x.variables target c.args.op own t (type_of e) c.variable_type-own.ensures c.requires.fits in
    on_ok_map _ _ _ (update_code x target c.args.op own t (reading_of target (sort c.bare_type-read.result.now) place) e place (ap (λ z. reading_of target z place) c.bare_type-read.ensures) c.variable_type-own.ensures u.1 _ _ _ _ c.in_ok-result.result.0 c.in_ok-value.value c.requires.room c.in_ok-result.ensures.emitted c.in_ok-value.ensures.made) c.emit_set.ensures.sets

pub returns-clause-lined : goal.returns-clause-lined
returns-clause-lined c =
    let read = sort c.bare_type-read.result.now in
    let place : Span = record { line = c.args.site.line; col = c.args.e.now.span.col } in
    always _ _ (update_pieces (setting_of c.args.site) (reading_of (typed_target c.args.target.now) read place) (typed_expr c.args.e.now) (typed_target c.args.target.now) read place _ _ _ refl c.in_ok-result.ensures.lined (around_both place.line _ _ _ (around_by place.line _ _ c.in_ok-value.ensures.kept c.in_ok-value.ensures.lined) (around_by place.line _ _ c.emit_set.ensures.kept c.emit_set.ensures.lined)))
