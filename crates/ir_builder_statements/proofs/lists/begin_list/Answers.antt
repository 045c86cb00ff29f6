use Rattle.ir_builder_statements.proofs.Common.{None, TargetsSuit, map, ap, sym, ◌≡◌, ◌∙◌, subst, Sort, sort, typed_expr, typed_target, type_of, type_at, Setting, LoopStart, rtype_of, extends_trans, type_kept, room_on, setting_of, around_by, around_both}
use Rattle.py_typed.specs.TargetTypes.{item_sort}
use Rattle.ir_core.specs.declared.code.RType.TheVariants.{Int, Ref}
use Rattle.ir_builder_statements.proofs.ListLemmas.{list_begun}
use Rattle.ir_builder_statements.proofs.LinedLemmas.{pieces_join, pieces_behind}
use Rattle.ir_builder_statements.proofs.lists.begin_list.Goals as goal

pub emit_more-requires-clause-list : goal.emit_more-requires-clause-list
emit_more-requires-clause-list c =
    let more = extends_trans _ _ _ c.in_ok-index.ensures.kept c.in_ok-head.ensures.kept in
    type_kept c.emit_kept.new.b c.step_on.new.self c.in_ok-list.list.0 Ref more (rw (← ap rtype_of c.requires.suits.1) c.in_ok-list.ensures.computes.1.type)

pub emit_item-requires-clause-list : goal.emit_item-requires-clause-list
emit_item-requires-clause-list c =
    let more = extends_trans _ _ _ c.in_ok-index.ensures.kept (extends_trans _ _ _ c.in_ok-head.ensures.kept c.in_ok-test.ensures.kept) in
    type_kept c.emit_kept.new.b c.emit_more.new.b c.in_ok-list.list.0 Ref more (rw (← ap rtype_of c.requires.suits.1) c.in_ok-list.ensures.computes.1.type)

pub emit_item-requires-clause-index : goal.emit_item-requires-clause-index
emit_item-requires-clause-index c =
    let more = extends_trans _ _ _ c.in_ok-head.ensures.kept c.in_ok-test.ensures.kept in
    type_kept c.emit_number.new.b c.emit_more.new.b c.in_ok-index.index.0 Int more c.in_ok-index.ensures.made.type

pub emit_more-requires-clause-index : goal.emit_more-requires-clause-index
emit_more-requires-clause-index c = type_kept c.emit_number.new.b c.step_on.new.self c.in_ok-index.index.0 Int c.in_ok-head.ensures.kept c.in_ok-index.ensures.made.type

pub emit_targets-requires-clause-targets : goal.emit_targets-requires-clause-targets
emit_targets-requires-clause-targets c =
    let x : Setting = setting_of c.args.site in
    let u = item_sort (type_of (typed_expr c.args.e.now)) in
    let same : u ≡ sort c.item_type-t.result.now = ap item_sort (type_at c.args.e.now) ∙ sym c.item_type-t.ensures in
    let P : Sort → Type 0 = λ z. TargetsSuit x.source x.variables None (map typed_target c.args.targets.now) z in
    subst P same c.requires.suits.3

pub emit_targets-requires-clause-room : goal.emit_targets-requires-clause-room
emit_targets-requires-clause-room c =
    room_on (setting_of c.args.site) _ _ (extends_trans _ _ _ c.in_ok-list.ensures.kept (extends_trans _ _ _ c.in_ok-index.ensures.kept (extends_trans _ _ _ c.in_ok-head.ensures.kept (extends_trans _ _ _ c.in_ok-test.ensures.kept c.in_ok-item.ensures.kept)))) c.requires.room

pub returns-in_err-emit_targets-clause-kept : goal.returns-in_err-emit_targets-clause-kept
returns-in_err-emit_targets-clause-kept c =
    extends_trans _ _ _ c.in_ok-list.ensures.kept (extends_trans _ _ _ c.in_ok-index.ensures.kept (extends_trans _ _ _ c.in_ok-head.ensures.kept (extends_trans _ _ _ c.in_ok-test.ensures.kept (extends_trans _ _ _ c.in_ok-item.ensures.kept c.emit_targets.ensures.kept))))

pub returns-clause-kept : goal.returns-clause-kept
returns-clause-kept c =
    extends_trans _ _ _ c.in_ok-list.ensures.kept (extends_trans _ _ _ c.in_ok-index.ensures.kept (extends_trans _ _ _ c.in_ok-head.ensures.kept (extends_trans _ _ _ c.in_ok-test.ensures.kept (extends_trans _ _ _ c.in_ok-item.ensures.kept c.emit_targets.ensures.kept))))

pub returns-clause-begins : goal.returns-clause-begins
returns-clause-begins c =
    let o : LoopStart = record { head = c.in_ok-head.head; test = c.in_ok-test.test } in
    let same : sort c.item_type-t.result.now ≡ item_sort (type_of (typed_expr c.args.e.now)) = c.item_type-t.ensures ∙ ap item_sort (sym (type_at c.args.e.now)) in
    list_begun (setting_of c.args.site) (map typed_target c.args.targets.now) c.args.e.now (sort c.item_type-t.result.now) c.in_ok-list.list c.in_ok-index.index c.in_ok-item.item.0 _ _ _ _ _ _ _ o c.requires.room same c.in_ok-list.ensures.computes c.in_ok-index.ensures.made c.in_ok-head.ensures.number c.in_ok-head.ensures.closed c.in_ok-test.ensures.splits c.in_ok-item.ensures.made c.in_ok-emit_targets.ensures.binds

pub returns-clause-counter : goal.returns-clause-counter
returns-clause-counter c =
    let more = extends_trans _ _ _ c.in_ok-head.ensures.kept (extends_trans _ _ _ c.in_ok-test.ensures.kept (extends_trans _ _ _ c.in_ok-item.ensures.kept c.emit_targets.ensures.kept)) in
    type_kept c.emit_number.new.b c.emit_targets.new.b c.in_ok-index.index.0 Int more c.in_ok-index.ensures.made.type

pub returns-clause-lined : goal.returns-clause-lined
returns-clause-lined c =
    let l = c.args.site.line in
    pieces_join c.in_ok-list.ensures.lined
    (pieces_behind
    (around_both l _ _ _ (around_by l _ _ c.in_ok-index.ensures.kept c.in_ok-index.ensures.lined)
    (around_both l _ _ _ (around_by l _ _ c.in_ok-head.ensures.kept (c.in_ok-head.ensures.lined l))
    (around_both l _ _ _ (around_by l _ _ c.in_ok-test.ensures.kept c.in_ok-test.ensures.lined) (around_by l _ _ c.in_ok-item.ensures.kept c.in_ok-item.ensures.lined))))
    c.in_ok-emit_targets.ensures.lined)
