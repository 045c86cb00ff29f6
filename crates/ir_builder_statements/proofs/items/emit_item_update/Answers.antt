use Rattle.ir_builder_statements.proofs.Common.{subst, sym, sort, type_of, typed_expr, type_at, Sort, Setting, rtype_of, HasType, Shows, Attempts, extends_trans, type_kept, room_on, setting_of, changed_as, around_by, around_both, around_none}
use Rattle.py_typed.specs.Sorts.{Optional}
use Rattle.ir_core.specs.declared.code.RType.TheVariants.{Ref}
use Rattle.ir_builder_operations.specs.Operating.{ActsOnTwo}
use Rattle.ir_builder_statements.proofs.AssignLemmas.{updated_simple}
use Rattle.ir_builder_statements.proofs.ItemLemmas.{declared_item, item_updated}
use Rattle.ir_builder_statements.proofs.LinedLemmas.{value_piece, pieces_join}
use Rattle.ir_builder_statements.proofs.items.emit_item_update.Goals as goal

pub emit_expression-requires-2-clause-room : goal.emit_expression-requires-2-clause-room
emit_expression-requires-2-clause-room c = room_on (setting_of c.args.site) _ _ c.in_ok-xs.ensures.kept c.requires.room

pub emit_expression-requires-3-clause-room : goal.emit_expression-requires-3-clause-room
emit_expression-requires-3-clause-room c =
    room_on (setting_of c.args.site) _ _ (extends_trans _ _ _ (extends_trans _ _ _ c.in_ok-xs.ensures.kept c.in_ok-i.ensures.kept) c.in_ok-old.ensures.kept) c.requires.room

pub emit_changed-requires-clause-old_value : goal.emit_changed-requires-clause-old_value
emit_changed-requires-clause-old_value c = type_kept _ _ _ _ c.in_ok-y.ensures.kept c.in_ok-old.ensures.made.type

pub emit_operation-requires-clause-operands : goal.emit_operation-requires-clause-operands
emit_operation-requires-clause-operands c =
    let late = extends_trans _ _ _ c.in_ok-old.ensures.kept (extends_trans _ _ _ c.in_ok-y.ensures.kept c.in_ok-changed.ensures.kept) in
    let list = subst (λ z. HasType c.emit_expression.new.b c.in_ok-xs.xs.0 (rtype_of z)) c.item_type-own.ensures c.in_ok-xs.ensures.emitted.type in
    let index = subst (λ z. HasType c.emit_expression-2.new.b c.in_ok-i.i.0 (rtype_of z)) c.requires.fits.1.1 c.in_ok-i.ensures.emitted.type in
    (type_kept _ _ _ _ (extends_trans _ _ _ c.in_ok-i.ensures.kept late) list, (type_kept _ _ _ _ late index, (c.in_ok-changed.ensures.made.type, tt)))

pub returns-in_err-emit_operation-clause-kept : goal.returns-in_err-emit_operation-clause-kept
returns-in_err-emit_operation-clause-kept c =
    extends_trans _ _ _ (extends_trans _ _ _ (extends_trans _ _ _ (extends_trans _ _ _ (extends_trans _ _ _ c.in_ok-xs.ensures.kept c.in_ok-i.ensures.kept) c.in_ok-old.ensures.kept) c.in_ok-y.ensures.kept) c.in_ok-changed.ensures.kept) c.in_err-emit_operation.ensures.kept

pub returns-clause-kept : goal.returns-clause-kept
returns-clause-kept c =
    extends_trans _ _ _ (extends_trans _ _ _ (extends_trans _ _ _ (extends_trans _ _ _ (extends_trans _ _ _ c.in_ok-xs.ensures.kept c.in_ok-i.ensures.kept) c.in_ok-old.ensures.kept) c.in_ok-y.ensures.kept) c.in_ok-changed.ensures.kept) c.in_ok-emit_operation.ensures.kept

pub returns-clause-works : goal.returns-clause-works
returns-clause-works c =
    let x : Setting = setting_of c.args.site in
    let a = typed_expr c.args.list.now in
    let i = typed_expr c.args.index.now in
    let e = typed_expr c.args.e.now in
    let own = sort c.item_type-own.result.now in
    let t = sort c.args.t.now in
    let fits = declared_item x.source x.variables a i c.args.op own t (type_of e) c.item_type-own.ensures c.requires.fits in
    let P : Sort → Type 0 = λ z. Attempts (Shows (Optional own)) c.emit_expression-3.new.b c.emit_changed.new.b c.in_ok-changed.changed.0 Ref (ActsOnTwo own z c.in_ok-old.old.0 c.in_ok-y.y.0 (changed_as own c.args.op t)) in
    item_updated x a i e c.args.op own t c.item_type-own.ensures (updated_simple x.source x.variables c.args.op own t (type_of e) fits.1) _ _ _ _ _ _ _ c.in_ok-xs.xs c.in_ok-i.i c.in_ok-old.old c.in_ok-y.y c.in_ok-changed.changed _ c.requires.fits.1.1 c.requires.room c.in_ok-xs.ensures.emitted c.in_ok-i.ensures.emitted c.in_ok-old.ensures.made c.in_ok-y.ensures.emitted (subst P (sym (type_at c.args.e.now)) c.in_ok-changed.ensures.made) c.in_ok-emit_operation.ensures.made

pub returns-clause-lined : goal.returns-clause-lined
returns-clause-lined c =
    let x : Setting = setting_of c.args.site in
    let l = c.args.site.line in
    let a = typed_expr c.args.list.now in
    let i = typed_expr c.args.index.now in
    let e = typed_expr c.args.e.now in
    pieces_join (value_piece x l a _ _ _ (type_of a, c.in_ok-xs.xs.0, c.in_ok-xs.ensures.emitted) c.in_ok-xs.ensures.lined (around_none l _))
    (pieces_join (value_piece x l i _ _ _ (type_of i, c.in_ok-i.i.0, c.in_ok-i.ensures.emitted) c.in_ok-i.ensures.lined (around_by l _ _ c.in_ok-old.ensures.kept c.in_ok-old.ensures.lined))
    (value_piece x l e _ _ _ (type_of e, c.in_ok-y.y.0, c.in_ok-y.ensures.emitted) c.in_ok-y.ensures.lined (around_both l _ _ _ (around_by l _ _ c.in_ok-changed.ensures.kept c.in_ok-changed.ensures.lined) (around_by l _ _ c.in_ok-emit_operation.ensures.kept c.in_ok-emit_operation.ensures.lined))))

pub returns-in_err-i-clause-kept : goal.returns-in_err-i-clause-kept
returns-in_err-i-clause-kept c = extends_trans _ _ _ c.in_ok-xs.ensures.kept c.in_err-i.ensures.kept

pub returns-in_err-old-clause-kept : goal.returns-in_err-old-clause-kept
returns-in_err-old-clause-kept c = extends_trans _ _ _ (extends_trans _ _ _ c.in_ok-xs.ensures.kept c.in_ok-i.ensures.kept) c.in_err-old.ensures.kept

pub returns-in_err-y-clause-kept : goal.returns-in_err-y-clause-kept
returns-in_err-y-clause-kept c =
    extends_trans _ _ _ (extends_trans _ _ _ (extends_trans _ _ _ c.in_ok-xs.ensures.kept c.in_ok-i.ensures.kept) c.in_ok-old.ensures.kept) c.in_err-y.ensures.kept

pub returns-in_err-changed-clause-kept : goal.returns-in_err-changed-clause-kept
returns-in_err-changed-clause-kept c =
    extends_trans _ _ _ (extends_trans _ _ _ (extends_trans _ _ _ (extends_trans _ _ _ c.in_ok-xs.ensures.kept c.in_ok-i.ensures.kept) c.in_ok-old.ensures.kept) c.in_ok-y.ensures.kept) c.in_err-changed.ensures.kept
