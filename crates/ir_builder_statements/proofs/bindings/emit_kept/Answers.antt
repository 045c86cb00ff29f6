use Rattle.ir_builder_statements.proofs.Common.{ap, sym, ◌∙◌, typed_expr, type_of, type_at, Setting, rtype_of, Reg, ok_map, setting_of, always, around_by}
use Rattle.ir_builder_statements.proofs.ForLemmas.{copy_computes}
use Rattle.ir_builder_statements.proofs.LinedLemmas.{value_piece}
use Rattle.ir_builder_statements.proofs.bindings.emit_kept.Goals as goal

pub returns-clause-computes : goal.returns-clause-computes
returns-clause-computes c =
    let x : Setting = setting_of c.args.site in
    let e = typed_expr c.args.e.now in
    ok_map _ _ _ (λ (q : Reg) made. copy_computes x (type_of e) _ _ _ _ _ c.in_ok-r.r.0 q.0 c.requires.room c.in_ok-r.ensures.emitted (c.register_type.ensures ∙ ap rtype_of (sym (type_at c.args.e.now))) made) c.emit_copy.ensures.made

pub returns-clause-lined : goal.returns-clause-lined
returns-clause-lined c =
    let e = typed_expr c.args.e.now in
    let l = c.args.site.line in
    always _ _ (value_piece (setting_of c.args.site) l e _ _ _ (type_of e, c.in_ok-r.r.0, c.in_ok-r.ensures.emitted) c.in_ok-r.ensures.lined (around_by l _ _ c.emit_copy.ensures.kept c.emit_copy.ensures.lined))
