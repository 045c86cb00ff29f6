use Rattle.ir_builder_statements.proofs.Common.{◌≡◌, sym, ◌∙◌, ap, subst, Sort, sort, typed_expr, type_of, rtype_of, HasType, type_kept, Setting, extends_trans, room_on, setting_of, always, around_by, around_none, ItemSuits, None}
use Rattle.py_typed.specs.TargetTypes.{item_sort}
use Rattle.ir_builder_statements.proofs.TargetLemmas.{item_puts}
use Rattle.ir_builder_statements.proofs.LinedLemmas.{value_piece, pieces_join, pieces_behind}
use Rattle.ir_builder_statements.proofs.items.emit_item_set.Goals as goal

pub item_type-own-requires : goal.item_type-own-requires
item_type-own-requires c = (c.requires.item.0, c.requires.item.1.0)

pub emit_boxed-requires : goal.emit_boxed-requires
emit_boxed-requires c =
    let same : c.requires.item.0 ≡ sort c.item_type-own.result.now = ap item_sort (sym c.requires.item.1.0 ∙ c.item_type-own.ensures) in
    record { value = subst (λ z. HasType c.args.b.now c.args.r.0 (rtype_of z)) same c.requires.item.2 }

pub emit_expression-requires-clause-suits : goal.emit_expression-requires-clause-suits
emit_expression-requires-clause-suits c = c.requires.item.1.2

pub emit_expression-requires-2-clause-suits : goal.emit_expression-requires-2-clause-suits
emit_expression-requires-2-clause-suits c = c.requires.item.1.3

pub emit_expression-requires-clause-room : goal.emit_expression-requires-clause-room
emit_expression-requires-clause-room c = room_on (setting_of c.args.site) _ _ c.in_ok-item.ensures.kept c.requires.room

pub emit_expression-requires-2-clause-room : goal.emit_expression-requires-2-clause-room
emit_expression-requires-2-clause-room c =
    room_on (setting_of c.args.site) _ _ (extends_trans _ _ _ c.in_ok-item.ensures.kept c.in_ok-xs.ensures.kept) c.requires.room

pub emit_operation-requires-clause-operands : goal.emit_operation-requires-clause-operands
emit_operation-requires-clause-operands c =
    let list = subst (λ z. HasType c.emit_expression.new.b c.in_ok-xs.xs.0 (rtype_of z)) c.requires.item.1.0 c.in_ok-xs.ensures.emitted.type in
    let index = subst (λ z. HasType c.emit_expression-2.new.b c.in_ok-i.i.0 (rtype_of z)) c.requires.item.1.1 c.in_ok-i.ensures.emitted.type in
    (type_kept _ _ _ _ c.in_ok-i.ensures.kept list, (index, (type_kept _ _ _ _ (extends_trans _ _ _ c.in_ok-xs.ensures.kept c.in_ok-i.ensures.kept) c.in_ok-item.ensures.made.type, tt)))

pub returns-in_err-xs-clause-kept : goal.returns-in_err-xs-clause-kept
returns-in_err-xs-clause-kept c = extends_trans _ _ _ c.in_ok-item.ensures.kept c.in_err-xs.ensures.kept

pub returns-in_err-i-clause-kept : goal.returns-in_err-i-clause-kept
returns-in_err-i-clause-kept c = extends_trans _ _ _ (extends_trans _ _ _ c.in_ok-item.ensures.kept c.in_ok-xs.ensures.kept) c.in_err-i.ensures.kept

pub returns-in_err-emit_operation-clause-kept : goal.returns-in_err-emit_operation-clause-kept
returns-in_err-emit_operation-clause-kept c =
    extends_trans _ _ _ (extends_trans _ _ _ (extends_trans _ _ _ c.in_ok-item.ensures.kept c.in_ok-xs.ensures.kept) c.in_ok-i.ensures.kept) c.in_err-emit_operation.ensures.kept

pub returns-clause-kept : goal.returns-clause-kept
returns-clause-kept c =
    extends_trans _ _ _ (extends_trans _ _ _ (extends_trans _ _ _ c.in_ok-item.ensures.kept c.in_ok-xs.ensures.kept) c.in_ok-i.ensures.kept) c.in_ok-emit_operation.ensures.kept

pub returns-clause-puts : goal.returns-clause-puts
returns-clause-puts c =
    let x : Setting = setting_of c.args.site in
    let a = typed_expr c.args.list.now in
    let i = typed_expr c.args.index.now in
    let own = sort c.item_type-own.result.now in
    let same : c.requires.item.0 ≡ own = ap item_sort (sym c.requires.item.1.0 ∙ c.item_type-own.ensures) in
    let P : Sort → Type 0 = λ z. ItemSuits x.source x.variables None a i z in
    item_puts x a i own (subst P same c.requires.item.1) c.args.r c.in_ok-item.item c.in_ok-xs.xs c.in_ok-i.i _ _ _ _ _ _ c.requires.room c.in_ok-item.ensures.made c.in_ok-xs.ensures.emitted c.in_ok-i.ensures.emitted c.in_ok-emit_operation.ensures.made

pub returns-clause-lined : goal.returns-clause-lined
returns-clause-lined c =
    let x : Setting = setting_of c.args.site in
    let l = c.args.site.line in
    let a = typed_expr c.args.list.now in
    let i = typed_expr c.args.index.now in
    pieces_behind (around_by l _ _ c.in_ok-item.ensures.kept c.in_ok-item.ensures.lined)
    (pieces_join (value_piece x l a _ _ _ (type_of a, c.in_ok-xs.xs.0, c.in_ok-xs.ensures.emitted) c.in_ok-xs.ensures.lined (around_none l _))
    (value_piece x l i _ _ _ (type_of i, c.in_ok-i.i.0, c.in_ok-i.ensures.emitted) c.in_ok-i.ensures.lined (around_by l _ _ c.in_ok-emit_operation.ensures.kept c.in_ok-emit_operation.ensures.lined)))
