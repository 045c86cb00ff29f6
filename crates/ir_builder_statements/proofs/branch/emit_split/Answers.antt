use Rattle.ir_builder_statements.proofs.Common.{typed_expr, type_of, setting_of, around_by}
use Rattle.ir_builder_statements.proofs.LinedLemmas.{value_piece}
use Rattle.ir_builder_statements.proofs.branch.emit_split.Goals as goal

pub returns-clause-lined : goal.returns-clause-lined
returns-clause-lined c l =
    let e = typed_expr c.args.e.now in
    value_piece (setting_of c.args.site) l e _ _ _ (type_of e, c.in_ok-condition.condition.0, c.in_ok-condition.ensures.emitted) c.in_ok-condition.ensures.lined (around_by l _ _ c.in_ok-block.ensures.kept (c.in_ok-block.ensures.lined l tt))
