use Rattle.ir_builder_statements.proofs.Common.{None, subst, map, Sort, typed_expr, typed_target, type_of, type_at, Setting, LoopStart, extends_trans, type_kept, room_on, setting_of, on_ok_map, around_by, around_both, TargetsSuit}
use Rattle.ir_builder_statements.proofs.ForLemmas.{range_begun}
use Rattle.ir_builder_statements.proofs.LinedLemmas.{pieces_join, pieces_behind}
use Rattle.ir_builder_statements.proofs.ranges.begin_range.Goals as goal

pub emit_targets-requires-clause-targets : goal.emit_targets-requires-clause-targets
emit_targets-requires-clause-targets c =
    let x : Setting = setting_of c.args.site in
    let P : Sort → Type 0 = λ z. TargetsSuit x.source x.variables None (map typed_target c.args.targets.now) z in
    subst P (type_at c.args.stop.now) c.requires.suits.3

pub emit_targets-requires-clause-value : goal.emit_targets-requires-clause-value
emit_targets-requires-clause-value c =
    let g = c.in_ok-counter.ensures.ranges in
    let more = extends_trans _ _ _ g.second.1.extends (extends_trans _ _ _ c.in_ok-head.ensures.kept c.in_ok-test.ensures.kept) in
    rw (← type_at c.args.stop.now, ← g.type) (type_kept g.middle c.emit_less.new.b c.in_ok-counter.counter.reg.0 _ more g.first.1.type)

pub emit_targets-requires-clause-room : goal.emit_targets-requires-clause-room
emit_targets-requires-clause-room c =
    room_on (setting_of c.args.site) _ _ (extends_trans _ _ _ c.in_ok-counter.ensures.kept (extends_trans _ _ _ c.in_ok-head.ensures.kept c.in_ok-test.ensures.kept)) c.requires.room

pub returns-in_err-emit_targets-clause-kept : goal.returns-in_err-emit_targets-clause-kept
returns-in_err-emit_targets-clause-kept c =
    extends_trans _ _ _ c.in_ok-counter.ensures.kept (extends_trans _ _ _ c.in_ok-head.ensures.kept (extends_trans _ _ _ c.in_ok-test.ensures.kept c.emit_targets.ensures.kept))

pub returns-clause-kept : goal.returns-clause-kept
returns-clause-kept c =
    extends_trans _ _ _ c.in_ok-counter.ensures.kept (extends_trans _ _ _ c.in_ok-head.ensures.kept (extends_trans _ _ _ c.in_ok-test.ensures.kept c.emit_targets.ensures.kept))

pub returns-clause-begins : goal.returns-clause-begins
returns-clause-begins c =
    let o : LoopStart = record { head = c.in_ok-head.head; test = c.in_ok-test.test } in
    range_begun (setting_of c.args.site) (map typed_target c.args.targets.now) c.args.start.now c.args.stop.now c.in_ok-counter.counter c.in_ok-counter.end.0 _ _ _ _ _ o c.requires.suits c.requires.room c.in_ok-counter.ensures.ranges c.in_ok-head.ensures.number c.in_ok-head.ensures.closed c.in_ok-test.ensures.splits c.in_ok-emit_targets.ensures.binds

pub returns-clause-counter : goal.returns-clause-counter
returns-clause-counter c =
    let g = c.in_ok-counter.ensures.ranges in
    let more = extends_trans _ _ _ g.second.1.extends (extends_trans _ _ _ c.in_ok-head.ensures.kept (extends_trans _ _ _ c.in_ok-test.ensures.kept c.emit_targets.ensures.kept)) in
    type_kept g.middle c.emit_targets.new.b c.in_ok-counter.counter.reg.0 _ more g.first.1.type

pub returns-clause-lined : goal.returns-clause-lined
returns-clause-lined c =
    let l = c.args.site.line in
    pieces_join c.in_ok-counter.ensures.lined (pieces_behind (around_both l _ _ _ (around_by l _ _ c.in_ok-head.ensures.kept (c.in_ok-head.ensures.lined l)) (around_by l _ _ c.in_ok-test.ensures.kept c.in_ok-test.ensures.lined)) c.in_ok-emit_targets.ensures.lined)
