use Rattle.ir_builder.proofs.Common.{option_map, option_copied, sort, ◌≡◌, refl, arith, typed_suite, setting, body_frame}
use Rattle.ir_builder_expressions.proofs.LinedLemmas.{around_by, around_both}
use Rattle.ir_builder_statements.proofs.LinedLemmas.{suite_code, body_piece}
use Rattle.ir_builder.proofs.BodyLemmas.{bodied}
use Rattle.ir_builder.proofs.body.emit_body.Goals as goal

pub returns-clause-bodied : goal.returns-clause-bodied
returns-clause-bodied c = bodied (setting c.args.checked.now c.args.locals.now (body_frame c.args.vars)) (option_map sort (option_copied c.args.gives)) c.args.t c.args.last _ _ _ _ _ _ _ _ c.here-start.result c.here-end.result c.in_ok-r.r refl c.in_ok-emit_block.ensures.emitted c.in_ok-r.ensures.added c.in_ok-close.ensures.closed c.here-start.ensures.number c.here-end.ensures.number c.fill.ensures.filled

pub returns-clause-fits : goal.returns-clause-fits
returns-clause-fits c m size =
    let n3 = c.in_ok-close.ensures.closed.blocks in
    let n4 = c.fill.ensures.filled.blocks in
    let end = c.here-end.ensures.number in
    let same : c.here-end.result ≡ m = omega arith in
    c.fill.ensures.within m (omega arith) (c.in_ok-close.ensures.within m tt (rw same at c.here-end.ensures.within))

pub returns-clause-lined : goal.returns-clause-lined
returns-clause-lined c =
    let x = setting c.args.checked.now c.args.locals.now (body_frame c.args.vars) in
    let suite = typed_suite c.args.body.now in
    let body = c.in_ok-emit_block.ensures in
    let end = c.in_ok-close.ensures in
    body_piece x 0 suite _ _ _ (suite_code x _ _ suite _ _ _ _ body.emitted) body.lined
    (around_both 0 _ _ _ (around_by 0 _ _ c.in_ok-r.ensures.kept c.in_ok-r.ensures.lined)
    (around_both 0 _ _ _ (around_by 0 _ _ end.kept (end.lined 0 tt)) record { lines = c.fill.ensures.lined 0; stays = c.fill.ensures.filled.has }))
