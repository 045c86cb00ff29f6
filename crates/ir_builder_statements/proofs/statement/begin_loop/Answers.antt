use Rattle.ir_builder_statements.proofs.Common.{Setting, extends_trans, room_on, LoopStart, setting_of, around_by, List, map, subst, sym, typed_expr, typed_target, maybe_typed, Target, ok_map, on_ok_map, RangeSuits, ListSuits}
use Rattle.ir_builder_statements.proofs.BodyLemmas.{while_begun, range_loop, list_loop}
use Rattle.ir_builder_statements.proofs.SuiteLemmas.{while_suits, range_suits, list_suits}
use Rattle.ir_builder_statements.proofs.LinedLemmas.{while_head, range_head, list_head}
use Rattle.ir_builder_statements.proofs.statement.begin_loop.Goals as goal

pub emit_split-requires-clause-room : goal.emit_split-requires-clause-room
emit_split-requires-clause-room c =
    room_on (setting_of c.args.site) _ _ c.in_ok-head-in-While.ensures.kept c.requires.room

pub returns-in_err-test-in-While-clause-kept : goal.returns-in_err-test-in-While-clause-kept
returns-in_err-test-in-While-clause-kept c = extends_trans _ _ _ c.in_ok-head-in-While.ensures.kept c.in_err-test-in-While.ensures.kept

pub returns-in_ok-test-in-While-clause-kept : goal.returns-in_ok-test-in-While-clause-kept
returns-in_ok-test-in-While-clause-kept c = extends_trans _ _ _ c.in_ok-head-in-While.ensures.kept c.in_ok-test-in-While.ensures.kept

pub returns-in_ok-test-in-While-clause-begins : goal.returns-in_ok-test-in-While-clause-begins
returns-in_ok-test-in-While-clause-begins c =
    let x : Setting = setting_of c.args.site in
    let o : LoopStart = record { head = c.in_ok-head-in-While.head; test = c.in_ok-test-in-While.test } in
    let test = while_suits x c.requires.suits.0 c.args.s.now c.in-While.e _ c.requires.suits.1 c.in-While.is c.requires.suits.2 in
    while_begun x c.args.s.now c.in-While.e _ c.args.b.now c.step_on.new.self c.emit_split.new.b o c.in-While.is c.requires.room test.0 c.in_ok-head-in-While.ensures.number c.in_ok-head-in-While.ensures.closed c.in_ok-test-in-While.ensures.splits

pub returns-in_ok-test-in-While-clause-lined : goal.returns-in_ok-test-in-While-clause-lined
returns-in_ok-test-in-While-clause-lined c =
    let l = c.args.s.now.line in
    while_head (setting_of c.args.site) c.args.s.now c.in-While.e _ l _ _ _ c.in-While.is (around_by l _ _ c.in_ok-head-in-While.ensures.kept (c.in_ok-head-in-While.ensures.lined l)) (c.in_ok-test-in-While.ensures.lined l)

pub begin_range-requires-clause-suits : goal.begin_range-requires-clause-suits
begin_range-requires-clause-suits c =
    let x : Setting = setting_of c.args.site in
    let P : List Target → Type 0 = λ z. RangeSuits x.source x.variables c.requires.suits.0 (map typed_target z) (maybe_typed c.in-ForRange.start) (typed_expr c.in-ForRange.stop) in
    subst P (sym c.as_slice-targets.ensures) (range_suits x c.requires.suits.0 c.args.s.now c.in-ForRange.targets c.in-ForRange.start c.in-ForRange.stop _ c.requires.suits.1 c.in-ForRange.is c.requires.suits.2)

pub returns-in-ForRange-clause-begins : goal.returns-in-ForRange-clause-begins
returns-in-ForRange-clause-begins c =
    let x : Setting = setting_of c.args.site in
    ok_map _ _ _ (λ o begun. range_loop x c.args.s.now c.as_slice-targets.result.now c.in-ForRange.targets c.in-ForRange.start c.in-ForRange.stop _ _ _ o c.in-ForRange.is c.as_slice-targets.ensures begun) c.begin_range.ensures.begins

pub returns-in-ForRange-clause-lined : goal.returns-in-ForRange-clause-lined
returns-in-ForRange-clause-lined c =
    on_ok_map _ _ _ (range_head (setting_of c.args.site) c.args.s.now c.as_slice-targets.result.now c.in-ForRange.targets c.in-ForRange.start c.in-ForRange.stop _ _ _ c.in-ForRange.is c.as_slice-targets.ensures) c.begin_range.ensures.lined

pub begin_list-requires-clause-suits : goal.begin_list-requires-clause-suits
begin_list-requires-clause-suits c =
    let x : Setting = setting_of c.args.site in
    let P : List Target → Type 0 = λ z. ListSuits x.source x.variables c.requires.suits.0 (map typed_target z) (typed_expr c.in-ForList.e) in
    subst P (sym c.as_slice-targets-in-ForList.ensures) (list_suits x c.requires.suits.0 c.args.s.now c.in-ForList.targets c.in-ForList.e _ c.requires.suits.1 c.in-ForList.is c.requires.suits.2)

pub returns-in-ForList-clause-begins : goal.returns-in-ForList-clause-begins
returns-in-ForList-clause-begins c =
    let x : Setting = setting_of c.args.site in
    ok_map _ _ _ (λ o begun. list_loop x c.args.s.now c.as_slice-targets-in-ForList.result.now c.in-ForList.targets c.in-ForList.e _ _ _ o c.in-ForList.is c.as_slice-targets-in-ForList.ensures begun) c.begin_list.ensures.begins

pub returns-in-ForList-clause-lined : goal.returns-in-ForList-clause-lined
returns-in-ForList-clause-lined c =
    on_ok_map _ _ _ (list_head (setting_of c.args.site) c.args.s.now c.as_slice-targets-in-ForList.result.now c.in-ForList.targets c.in-ForList.e _ _ _ c.in-ForList.is c.as_slice-targets-in-ForList.ensures) c.begin_list.ensures.lined
