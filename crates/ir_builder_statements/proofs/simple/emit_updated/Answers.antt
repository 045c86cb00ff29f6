use Rattle.ir_builder_statements.proofs.Common.{subst, sym, sort, type_of, typed_expr, typed_target, TypedExpr, ◌∷◌, [], Reg, Setting, ok_map, on_ok_map, Binary, BinarySuits, Suits, LinedParts, type_at, EmitsTwo, update_binary, setting_of}
use Rattle.ir_builder_statements.proofs.AssignLemmas.{reading_suits, updated_simple, update_fits}
use Rattle.ir_builder_statements.proofs.simple.emit_updated.Goals as goal

pub reading-before-requires : goal.reading-before-requires
reading-before-requires c =
    let x : Setting = setting_of c.args.site in
    record { simple = updated_simple x.source x.variables c.args.op (sort c.args.read.now) (sort c.args.t.now) (type_of (typed_expr c.args.e.now)) c.requires.fits; variable = (x.source, x.variables, c.requires.variable) }

pub emit_two_parts-requires-clause-fits : goal.emit_two_parts-requires-clause-fits
emit_two_parts-requires-clause-fits c =
    let x : Setting = setting_of c.args.site in
    let read = sort c.args.read.now in
    let t = sort c.args.t.now in
    subst (λ z. BinarySuits z t (sort c.reading-before.result.ty) (sort c.args.e.now.ty)) (sym c.updating.ensures)
    (subst (λ z. BinarySuits (update_binary c.args.op t) t z (sort c.args.e.now.ty)) (sym c.reading-before.ensures.same)
    (subst (λ z. BinarySuits (update_binary c.args.op t) t read z) (type_at c.args.e.now) (update_fits x.source x.variables c.args.op read t (type_of (typed_expr c.args.e.now)) c.requires.fits)))

pub emit_two_parts-requires-clause-left : goal.emit_two_parts-requires-clause-left
emit_two_parts-requires-clause-left c =
    let x : Setting = setting_of c.args.site in
    let read = sort c.args.read.now in
    subst (Suits x.source x.variables) (sym c.reading-before.ensures.reads) (reading_suits x.source x.variables (typed_target c.args.target.now) read (record { line = c.args.site.line; col = c.args.e.now.span.col }) c.requires.variable)

pub returns-clause-emitted : goal.returns-clause-emitted
returns-clause-emitted c =
    let x : Setting = setting_of c.args.site in
    let t = sort c.args.t.now in
    ok_map _ _ _ (λ (r : Reg) q. subst (λ (z : TypedExpr). EmitsTwo x (update_binary c.args.op t) t z (typed_expr c.args.e.now) c.args.b.now c.emit_two_parts.new.b r.0) c.reading-before.ensures.reads (subst (λ (z : Binary). EmitsTwo x z t (typed_expr c.reading-before.result) (typed_expr c.args.e.now) c.args.b.now c.emit_two_parts.new.b r.0) c.updating.ensures q)) c.emit_two_parts.ensures.emitted

pub returns-clause-lined : goal.returns-clause-lined
returns-clause-lined c =
    let P : TypedExpr → Type 0 = λ z. LinedParts (setting_of c.args.site) c.args.site.line (z ∷ typed_expr c.args.e.now ∷ []) c.args.b.now c.emit_two_parts.new.b in
    on_ok_map _ _ _ (λ h. subst P c.reading-before.ensures.reads h) c.emit_two_parts.ensures.lined
