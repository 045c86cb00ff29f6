use Rattle.ir_builder_statements.proofs.Common.{option_map, option_copied, sort, rules, map, true, le_refl, the_lemmas, typed_expr, maybe_typed, typed_stmt, typed_suite, typed_arm, arms_of, Setting, HasRoom, extends_refl, extends_trans, type_kept, on_ok_map, either_way, room_on, means_loop, means_statement, means_suite, nothing_emitted, next_emitted, alone_emitted, assignment_emitted, update_emitted, loop_open, loop_emitted, nothing_tested, next_tested, if_emitted, pass_emitted, break_emitted, continue_emitted, join_open, SuiteSuits, ArmsSuit, LoopSuits, GivesResult, setting_of, BoolType, ℕ, Around, always, around_by, around_both}
use Rattle.ir_builder_statements.proofs.SuiteLemmas.{suite_step, arms_step, loop_suits, loop_body, loop_means, alone_suits, assign_suits, update_suits, if_suits, return_suits, break_suits, continue_suits, none_left, range_loop_suits, list_loop_suits}
use Rattle.ir_builder_statements.proofs.BodyLemmas.{on_ok_both, return_made, returns_given, gives_on, condition_type}
use Rattle.ir_builder_statements.proofs.CountLemmas.{counter_kept}
use Rattle.ir_builder_statements.proofs.LinedLemmas.{pieces_join, body_piece, suite_next, suite_over, suite_code, arms_next, arms_over, arm_around, alone_lined, assign_lined, update_lined, return_lined, break_lined, continue_lined, pass_lined, if_lined, loop_lined}
use Rattle.ir_builder_statements.proofs.statement.+statement.Goals as goal

-- ---- rows

pub emit_block-loop-s-init : goal.emit_block-loop-s-init
emit_block-loop-s-init t c = record {
  so_far = λ end zs e. e;
  kept = extends_refl c.args.b.now;
  suits = c.requires.suits;
  room = c.requires.room;
  result = c.requires.result;
  lined = record { make = λ end h. h };
}

pub emit_block-loop-s-preserved : goal.emit_block-loop-s-preserved
emit_block-loop-s-preserved t c =
    let x : Setting = setting_of c.args.site in
    let i = c.loop-s.invariant in
    let k = c.in_ok-emit_statement.ensures in
    record {
      so_far = λ end zs e. i.so_far end zs (next_emitted x (option_map sort (option_copied c.args.gives)) c.args.looping c.args.body.now c.loop-s.s-index c.s-item.result _ _ end _ _ zs c.loop-s-test.true c.s-item.is k.emitted e);
      kept = extends_trans _ _ _ i.kept k.kept;
      suits = (suite_step x.source x.variables (option_map sort (option_copied c.args.gives)) c.args.looping c.args.body.now c.loop-s.s-index c.s-item.result c.loop-s-test.true c.s-item.is i.suits).1;
      room = room_on x _ _ k.kept i.room;
      result = gives_on (option_map sort (option_copied c.args.gives)) _ _ k.kept i.result;
      lined = suite_next x c.args.body.now c.loop-s.s-index c.s-item.result c.args.b.now c.loop-s.b _ c.loop-s-test.true c.s-item.is i.lined (option_map sort (option_copied c.args.gives), k.emitted.mine, k.emitted.works) k.lined;
    }

pub emit_block-returns-in_err-emit_statement-clause-kept : goal.emit_block-returns-in_err-emit_statement-clause-kept
emit_block-returns-in_err-emit_statement-clause-kept t c = extends_trans _ _ _ c.loop-s.invariant.kept c.in_err-emit_statement.ensures.kept

pub emit_block-returns-clause-emitted : goal.emit_block-returns-clause-emitted
emit_block-returns-clause-emitted t c =
    c.loop-s.invariant.so_far _ _ (nothing_emitted (setting_of c.args.site) (option_map sort (option_copied c.args.gives)) c.args.looping c.args.body.now c.loop-s.s-index _ _ c.loop-s-test.false)

-- ---- statements

pub emit_statement-emit_if-requires : goal.emit_statement-emit_if-requires
emit_statement-emit_if-requires t c =
    let x : Setting = setting_of c.args.site in
    let k = if_suits x.source x.variables (option_map sort (option_copied c.args.gives)) c.args.looping c.args.s.now c.requires.suits c.as_slice-arms.result.now c.in-If.arms c.as_slice-other.result.now c.in-If.other c.in-If.is c.as_slice-arms.ensures c.as_slice-other.ensures in
    let arms_suit : ArmsSuit x.source x.variables (option_map sort (option_copied c.args.gives)) c.args.looping (arms_of (map typed_arm c.as_slice-arms.result.now)) = k.0 in
    let other_suits : SuiteSuits x.source x.variables (option_map sort (option_copied c.args.gives)) c.args.looping (typed_suite c.as_slice-other.result.now) = k.1 in
    (search (rules, the_lemmas), (search (rules, the_lemmas), (arms_suit, (other_suits, (c.requires.room, (c.requires.alone, c.requires.result))))))

pub emit_statement-emit_alone-requires-clause-suits : goal.emit_statement-emit_alone-requires-clause-suits
emit_statement-emit_alone-requires-clause-suits t c =
    let x : Setting = setting_of c.args.site in
    alone_suits x.source x.variables (option_map sort (option_copied c.args.gives)) c.args.looping c.args.s.now c.requires.suits c.in-Expr.e c.in-Expr.is

pub emit_statement-emit_assignment-requires : goal.emit_statement-emit_assignment-requires
emit_statement-emit_assignment-requires t c =
    let x : Setting = setting_of c.args.site in
    let k = assign_suits x.source x.variables (option_map sort (option_copied c.args.gives)) c.args.looping c.args.s.now c.requires.suits c.as_slice-targets.result.now c.in-Assign.targets c.in-Assign.e c.in-Assign.is c.as_slice-targets.ensures in
    record { targets = k.0; suits = k.1; room = c.requires.room }

pub emit_statement-emit_update-requires : goal.emit_statement-emit_update-requires
emit_statement-emit_update-requires t c =
    let x : Setting = setting_of c.args.site in
    let k = update_suits x.source x.variables (option_map sort (option_copied c.args.gives)) c.args.looping c.args.s.now c.requires.suits c.in-Aug.target c.in-Aug.op c.in-Aug.e _ c.in-Aug.is in
    record { fits = k.0; suits = k.1; room = c.requires.room }

pub emit_statement-emit_return-requires-clause-result : goal.emit_statement-emit_return-requires-clause-result
emit_statement-emit_return-requires-clause-result t c =
    let x : Setting = setting_of c.args.site in
    returns_given x.source x.variables (option_map sort (option_copied c.args.gives)) (maybe_typed c.in-Return.value) c.args.b.now.among (return_suits x.source x.variables (option_map sort (option_copied c.args.gives)) c.args.looping c.args.s.now c.requires.suits c.in-Return.value c.in-Return.is) c.requires.result

pub emit_statement-returns-in-Expr-clause-emitted : goal.emit_statement-returns-in-Expr-clause-emitted
emit_statement-returns-in-Expr-clause-emitted t c =
    on_ok_map _ _ _ (alone_emitted (setting_of c.args.site) (option_map sort (option_copied c.args.gives)) c.args.looping c.args.s.now c.in-Expr.e _ _ _ c.in-Expr.is) c.emit_alone.ensures.works

pub emit_statement-returns-in-Assign-clause-emitted : goal.emit_statement-returns-in-Assign-clause-emitted
emit_statement-returns-in-Assign-clause-emitted t c =
    on_ok_map _ _ _ (assignment_emitted (setting_of c.args.site) (option_map sort (option_copied c.args.gives)) c.args.looping c.args.s.now c.as_slice-targets.result.now c.in-Assign.targets c.in-Assign.e _ _ _ c.in-Assign.is c.as_slice-targets.ensures) c.emit_assignment.ensures.works

pub emit_statement-returns-in-Aug-clause-emitted : goal.emit_statement-returns-in-Aug-clause-emitted
emit_statement-returns-in-Aug-clause-emitted t c =
    on_ok_map _ _ _ (update_emitted (setting_of c.args.site) (option_map sort (option_copied c.args.gives)) c.args.looping c.args.s.now c.in-Aug.target c.in-Aug.op c.in-Aug.e _ _ _ _ c.in-Aug.is) c.emit_update.ensures.works

pub emit_statement-returns-in-Return-clause-emitted : goal.emit_statement-returns-in-Return-clause-emitted
emit_statement-returns-in-Return-clause-emitted t c =
    let x : Setting = setting_of c.args.site in
    on_ok_map _ _ _ (return_made x (option_map sort (option_copied c.args.gives)) c.args.looping c.args.s.now c.in-Return.value _ _ _ c.in-Return.is (return_suits x.source x.variables (option_map sort (option_copied c.args.gives)) c.args.looping c.args.s.now c.requires.suits c.in-Return.value c.in-Return.is)) c.emit_return.ensures.works

pub emit_statement-returns-in-Break-clause-emitted : goal.emit_statement-returns-in-Break-clause-emitted
emit_statement-returns-in-Break-clause-emitted t c =
    let x : Setting = setting_of c.args.site in
    on_ok_both _ _ _ _ (break_emitted x (option_map sort (option_copied c.args.gives)) c.args.looping c.args.s.now _ _ _ _ (break_suits x.source x.variables (option_map sort (option_copied c.args.gives)) c.args.looping c.args.s.now c.requires.suits c.in-Break.is) c.in-Break.is) c.leave_by.ensures.noted c.leave_by.ensures.closed

pub emit_statement-returns-in-Continue-clause-emitted : goal.emit_statement-returns-in-Continue-clause-emitted
emit_statement-returns-in-Continue-clause-emitted t c =
    let x : Setting = setting_of c.args.site in
    on_ok_both _ _ _ _ (continue_emitted x (option_map sort (option_copied c.args.gives)) c.args.looping c.args.s.now _ _ _ _ (continue_suits x.source x.variables (option_map sort (option_copied c.args.gives)) c.args.looping c.args.s.now c.requires.suits c.in-Continue.is) c.in-Continue.is) c.leave_by-in-Continue.ensures.noted c.leave_by-in-Continue.ensures.closed

pub emit_statement-returns-in-Pass-clause-emitted : goal.emit_statement-returns-in-Pass-clause-emitted
emit_statement-returns-in-Pass-clause-emitted t c =
    pass_emitted (setting_of c.args.site) (option_map sort (option_copied c.args.gives)) c.args.looping c.args.s.now c.args.b.now c.args.exits.now.items c.in-Pass.is

-- ---- `if`

pub emit_arms-loop-e-init : goal.emit_arms-loop-e-init
emit_arms-loop-e-init t c = record {
  so_far = nothing_tested (setting_of c.args.site) (option_map sort (option_copied c.args.gives)) c.args.looping c.args.arms.now c.args.b.now c.args.exits.now.items c.requires.none;
  suits = c.requires.suits;
  room = c.requires.room;
  lined = λ k. record { make = λ end h. h };
}

pub emit_arms-emit_block-requires : goal.emit_arms-emit_block-requires
emit_arms-emit_block-requires t c =
    let x : Setting = setting_of c.args.site in
    let k = arms_step x.source x.variables (option_map sort (option_copied c.args.gives)) c.args.looping c.args.arms.now c.loop-e.e-index c.loop-e-item.result c.as_slice-body.result.now c.loop-e-test.true c.loop-e-item.is c.as_slice-body.ensures c.loop-e.invariant.suits in
    let suits : SuiteSuits x.source x.variables (option_map sort (option_copied c.args.gives)) c.args.looping (typed_suite c.as_slice-body.result.now) = k.1 in
    let room : HasRoom x c.emit_split.new.b = room_on x _ _ c.in_ok-test.ensures.kept c.loop-e.invariant.room in
    let result : GivesResult (option_map sort (option_copied c.args.gives)) c.emit_split.new.b.among = gives_on (option_map sort (option_copied c.args.gives)) _ _ (extends_trans _ _ _ c.loop-e.invariant.so_far.extends c.in_ok-test.ensures.kept) c.requires.result in
    (search (rules, the_lemmas), (suits, (room, (c.requires.alone, result))))

pub emit_arms-end_arm-requires-clause-flag : goal.emit_arms-end_arm-requires-clause-flag
emit_arms-end_arm-requires-clause-flag t c =
    let x : Setting = setting_of c.args.site in
    let step = arms_step x.source x.variables (option_map sort (option_copied c.args.gives)) c.args.looping c.args.arms.now c.loop-e.e-index c.loop-e-item.result c.as_slice-body.result.now c.loop-e-test.true c.loop-e-item.is c.as_slice-body.ensures c.loop-e.invariant.suits in
    condition_type x (option_map sort (option_copied c.args.gives)) (typed_expr c.loop-e-item.result.0) c.loop-e.b c.emit_split.new.b c.emit_block.new.b c.in_ok-test.test step.0 c.in_ok-test.ensures.splits c.in_ok-emit_block.ensures.kept

pub emit_arms-returns-in_err-test-clause-kept : goal.emit_arms-returns-in_err-test-clause-kept
emit_arms-returns-in_err-test-clause-kept t c = extends_trans _ _ _ c.loop-e.invariant.so_far.extends c.in_err-test.ensures.kept

pub emit_arms-returns-in_err-emit_block-clause-kept : goal.emit_arms-returns-in_err-emit_block-clause-kept
emit_arms-returns-in_err-emit_block-clause-kept t c =
    extends_trans _ _ _ c.loop-e.invariant.so_far.extends (extends_trans _ _ _ c.in_ok-test.ensures.kept c.in_err-emit_block.ensures.kept)

pub emit_arms-returns-in_err-end_arm-clause-kept : goal.emit_arms-returns-in_err-end_arm-clause-kept
emit_arms-returns-in_err-end_arm-clause-kept t c =
    extends_trans _ _ _ c.loop-e.invariant.so_far.extends (extends_trans _ _ _ c.in_ok-test.ensures.kept (extends_trans _ _ _ c.in_ok-emit_block.ensures.kept c.in_err-end_arm.ensures.kept))

pub emit_arms-loop-e-preserved : goal.emit_arms-loop-e-preserved
emit_arms-loop-e-preserved t c =
    let x : Setting = setting_of c.args.site in
    let i = c.loop-e.invariant in
    let a = c.loop-e-item.result in
    let step = arms_step x.source x.variables (option_map sort (option_copied c.args.gives)) c.args.looping c.args.arms.now c.loop-e.e-index a c.as_slice-body.result.now c.loop-e-test.true c.loop-e-item.is c.as_slice-body.ensures i.suits in
    let p = c.in_ok-test.ensures in
    let q = c.in_ok-emit_block.ensures in
    let e = c.in_ok-end_arm.ensures in
    let all = next_tested x (option_map sort (option_copied c.args.gives)) c.args.looping c.args.arms.now c.loop-e.e-index a c.as_slice-body.result.now c.args.b.now c.loop-e.b c.emit_split.new.b c.emit_block.new.b c.end_arm.new.b c.in_ok-test.test _ _ _ c.loop-e-test.true c.loop-e-item.is c.as_slice-body.ensures i.room step.0.0 i.so_far p.splits q.emitted e.ends in
    record {
      so_far = all;
      suits = step.2;
      room = room_on x _ _ all.extends c.requires.room;
      lined = λ l. arms_next x l c.args.arms.now c.loop-e.e-index a c.as_slice-body.result.now c.args.b.now c.loop-e.b c.emit_split.new.b c.emit_block.new.b c.end_arm.new.b c.loop-e-test.true c.loop-e-item.is c.as_slice-body.ensures (i.lined l) (p.lined l) (suite_code x _ _ (typed_suite c.as_slice-body.result.now) _ _ _ _ q.emitted) q.lined (arm_around x l (typed_expr a.0) c.loop-e.b c.emit_split.new.b c.emit_block.new.b c.end_arm.new.b c.in_ok-test.test _ _ p.splits q.kept e.ends (e.lined l));
    }

pub emit_if-emit_block-requires : goal.emit_if-emit_block-requires
emit_if-emit_block-requires t c =
    let x : Setting = setting_of c.args.site in
    let room : HasRoom x c.emit_arms.new.b = room_on x _ _ c.in_ok-emit_arms.ensures.kept c.requires.room in
    let result : GivesResult (option_map sort (option_copied c.args.gives)) c.emit_arms.new.b.among = gives_on (option_map sort (option_copied c.args.gives)) _ _ c.in_ok-emit_arms.ensures.kept c.requires.result in
    (search (rules, the_lemmas), (c.requires.other_suits, (room, (c.requires.alone, result))))

pub emit_if-returns-in_err-emit_block-clause-kept : goal.emit_if-returns-in_err-emit_block-clause-kept
emit_if-returns-in_err-emit_block-clause-kept t c = extends_trans _ _ _ c.in_ok-emit_arms.ensures.kept c.in_err-emit_block.ensures.kept

pub emit_if-join-requires : goal.emit_if-join-requires
emit_if-join-requires t c =
    record { opens = join_open (setting_of c.args.site) (option_map sort (option_copied c.args.gives)) c.args.looping c.args.arms.now c.args.other.now _ _ _ _ _ c.deref.result.now c.in_ok-emit_arms.ensures.tested c.in_ok-emit_block.ensures.emitted c.deref.ensures.value }

pub emit_if-returns : goal.emit_if-returns
emit_if-returns t c =
    let x : Setting = setting_of c.args.site in
    let s = c.args.s.now in
    let arms = c.in_ok-emit_arms.ensures in
    let other = c.in_ok-emit_block.ensures in
    let made = if_emitted x (option_map sort (option_copied c.args.gives)) c.args.looping c.args.arms.now c.args.other.now c.args.b.now c.emit_arms.new.b c.emit_block.new.b _ _ c.deref.result.now arms.tested other.emitted c.deref.ensures.value s c.join.new.b c.args.exits.now.items c.join.new.exits.items c.requires.is in
    record {
      kept = either_way c.join.result _ _ _ (λ j. (made j).works.extends) (λ k. extends_trans _ _ _ arms.kept (extends_trans _ _ _ other.kept k)) c.join.ensures.joins c.join.ensures.kept;
      emitted = on_ok_map _ _ _ made c.join.ensures.joins;
      lined = on_ok_map _ _ _ (λ (end : (l : ℕ) → Around l c.emit_block.new.b c.join.new.b). if_lined x s _ _ c.args.arms.now c.args.other.now c.requires.is (pieces_join (arms.lined s.line) (body_piece x s.line (typed_suite c.args.other.now) _ _ _ (suite_code x _ _ (typed_suite c.args.other.now) _ _ _ _ other.emitted) other.lined (end s.line)))) c.join.ensures.lined;
    }

-- ---- loops

pub emit_statement-unreachable-requires : goal.emit_statement-unreachable-requires
emit_statement-unreachable-requires t c =
    let x : Setting = setting_of c.args.site in
    let d = c.in_default in
    none_left x.source x.variables (option_map sort (option_copied c.args.gives)) c.args.looping c.args.s.now c.requires.suits d.not-Expr d.not-Assign d.not-Aug d.not-If d.not-While d.not-ForRange d.not-ForList d.not-Return d.not-Break d.not-Continue d.not-Pass

pub emit_statement-emit_loop-requires : goal.emit_statement-emit_loop-requires
emit_statement-emit_loop-requires t c =
    let x : Setting = setting_of c.args.site in
    let suits : LoopSuits x.source x.variables (option_map sort (option_copied c.args.gives)) (typed_stmt c.args.s.now) (typed_suite c.as_slice-body.result.now) = loop_suits x.source x.variables (option_map sort (option_copied c.args.gives)) c.args.looping c.args.s.now c.requires.suits _ _ c.as_slice-body.result.now c.in-While.is c.as_slice-body.ensures in
    (search (rules, the_lemmas), (suits, (c.requires.room, (c.requires.alone, c.requires.result))))

pub emit_statement-emit_loop-requires-in-ForRange : goal.emit_statement-emit_loop-requires-in-ForRange
emit_statement-emit_loop-requires-in-ForRange t c =
    let x : Setting = setting_of c.args.site in
    let suits : LoopSuits x.source x.variables (option_map sort (option_copied c.args.gives)) (typed_stmt c.args.s.now) (typed_suite c.as_slice-body-in-ForRange.result.now) = range_loop_suits x.source x.variables (option_map sort (option_copied c.args.gives)) c.args.looping c.args.s.now c.requires.suits _ _ _ _ c.as_slice-body-in-ForRange.result.now c.in-ForRange.is c.as_slice-body-in-ForRange.ensures in
    search (rules, the_lemmas)

pub emit_statement-emit_loop-requires-in-ForList : goal.emit_statement-emit_loop-requires-in-ForList
emit_statement-emit_loop-requires-in-ForList t c =
    let x : Setting = setting_of c.args.site in
    let suits : LoopSuits x.source x.variables (option_map sort (option_copied c.args.gives)) (typed_stmt c.args.s.now) (typed_suite c.as_slice-body-in-ForList.result.now) = list_loop_suits x.source x.variables (option_map sort (option_copied c.args.gives)) c.args.looping c.args.s.now c.requires.suits _ _ _ c.as_slice-body-in-ForList.result.now c.in-ForList.is c.as_slice-body-in-ForList.ensures in
    search (rules, the_lemmas)

pub emit_loop-begin_loop-requires : goal.emit_loop-begin_loop-requires
emit_loop-begin_loop-requires t c = record {
  suits = (option_map sort (option_copied c.args.gives), typed_suite c.args.body.now, c.requires.suits);
  room = c.requires.room;
}

pub emit_loop-emit_block-requires : goal.emit_loop-emit_block-requires
emit_loop-emit_block-requires t c =
    let x : Setting = setting_of c.args.site in
    let suits : SuiteSuits x.source x.variables (option_map sort (option_copied c.args.gives)) true (typed_suite c.args.body.now) = loop_body x (option_map sort (option_copied c.args.gives)) (typed_stmt c.args.s.now) (typed_suite c.args.body.now) c.requires.suits in
    let room : HasRoom x c.begin_loop.new.b = room_on x _ _ c.in_ok-begun.ensures.kept c.requires.room in
    let result : GivesResult (option_map sort (option_copied c.args.gives)) c.begin_loop.new.b.among = gives_on (option_map sort (option_copied c.args.gives)) _ _ c.in_ok-begun.ensures.kept c.requires.result in
    (search (rules, the_lemmas), (suits, (room, (c.requires.alone, result))))

pub emit_loop-returns-in_err-emit_block-clause-kept : goal.emit_loop-returns-in_err-emit_block-clause-kept
emit_loop-returns-in_err-emit_block-clause-kept t c = extends_trans _ _ _ c.in_ok-begun.ensures.kept c.in_err-emit_block.ensures.kept

pub emit_loop-returns-in_err-next-clause-kept : goal.emit_loop-returns-in_err-next-clause-kept
emit_loop-returns-in_err-next-clause-kept t c = extends_trans _ _ _ c.in_ok-begun.ensures.kept (extends_trans _ _ _ c.in_ok-emit_block.ensures.kept c.in_err-next.ensures.kept)

pub emit_loop-emit_step-requires : goal.emit_loop-emit_step-requires
emit_loop-emit_step-requires t c =
    record { counter = counter_kept c.in_ok-begun.begun.counter _ _ (extends_trans _ _ _ c.in_ok-emit_block.ensures.kept c.in_ok-next.ensures.kept) c.in_ok-begun.ensures.counter }

pub emit_loop-end_loop-requires : goal.emit_loop-end_loop-requires
emit_loop-end_loop-requires t c =
    let g = c.in_ok-begun.ensures.begins in
    let step = c.in_ok-emit_step.ensures in
    let k = loop_open (setting_of c.args.site) (option_map sort (option_copied c.args.gives)) _ _ _ _ _ _ _ _ c.in_ok-begun.begun.start c.in_ok-next.next _ _ c.deref.result.now g c.new-inner.ensures.items c.in_ok-emit_block.ensures.emitted c.in_ok-next.ensures.number c.in_ok-next.ensures.closed step.kept c.deref.ensures.value in
    record {
      head = (g.head.0, k.0);
      «open» = k.1;
      start = g.start.0;
      here = k.2;
      next = k.3;
      opens = k.4;
      flag = type_kept c.begin_loop.new.b c.emit_step.new.b c.in_ok-begun.begun.start.test.condition.0 BoolType (extends_trans _ _ _ c.in_ok-emit_block.ensures.kept (extends_trans _ _ _ c.in_ok-next.ensures.kept step.kept)) g.type;
    }

pub emit_loop-returns : goal.emit_loop-returns
emit_loop-returns t c =
    let x : Setting = setting_of c.args.site in
    let s = c.args.s.now in
    let ss = typed_suite c.args.body.now in
    let begun = c.in_ok-begun.ensures in
    let inside = c.in_ok-emit_block.ensures in
    let next = c.in_ok-next.ensures in
    let step = c.in_ok-emit_step.ensures in
    let made = loop_emitted x (option_map sort (option_copied c.args.gives)) c.args.looping _ (means_loop x (typed_stmt s)) (means_suite x ss) (means_statement x (typed_stmt s)) c.args.b.now c.begin_loop.new.b c.emit_block.new.b c.step_on.new.self c.emit_step.new.b c.end_loop.new.b c.in_ok-begun.begun.start c.in_ok-next.next c.args.exits.now.items c.end_loop.new.exits.items _ _ c.deref.result.now (loop_means x (option_map sort (option_copied c.args.gives)) (typed_stmt s) ss c.requires.suits) begun.begins c.new-inner.ensures.items inside.emitted next.number next.closed step.steps c.deref.ensures.value in
    let to_turn = around_both s.line _ _ _ (around_by s.line _ _ next.kept (next.lined s.line)) (around_by s.line _ _ step.kept step.lined) in
    record {
      kept = either_way c.end_loop.result _ _ _ (λ l. (made l).works.extends) (λ k. extends_trans _ _ _ begun.kept (extends_trans _ _ _ inside.kept (extends_trans _ _ _ next.kept (extends_trans _ _ _ step.kept k)))) c.end_loop.ensures.ends c.end_loop.ensures.kept;
      emitted = on_ok_map _ _ _ made c.end_loop.ensures.ends;
      lined = on_ok_map _ _ _ (λ (end : Around s.line c.emit_step.new.b c.end_loop.new.b). loop_lined x (option_map sort (option_copied c.args.gives)) s ss _ _ _ _ _ c.requires.suits begun.lined (suite_code x _ _ ss _ _ _ _ inside.emitted) inside.lined to_turn end) c.end_loop.ensures.lined;
    }

-- ---- the lines

pub emit_block-returns-clause-lined : goal.emit_block-returns-clause-lined
emit_block-returns-clause-lined t c =
    suite_over (setting_of c.args.site) c.args.body.now c.loop-s.s-index c.args.b.now c.loop-s.b c.loop-s-test.false c.loop-s.invariant.lined

pub emit_statement-returns-in-Expr-clause-lined : goal.emit_statement-returns-in-Expr-clause-lined
emit_statement-returns-in-Expr-clause-lined t c =
    on_ok_both _ _ _ _ (alone_lined (setting_of c.args.site) c.args.s.now _ _ c.in-Expr.e c.in-Expr.is) c.emit_alone.ensures.works c.emit_alone.ensures.lined

pub emit_statement-returns-in-Assign-clause-lined : goal.emit_statement-returns-in-Assign-clause-lined
emit_statement-returns-in-Assign-clause-lined t c =
    on_ok_map _ _ _ (assign_lined (setting_of c.args.site) c.args.s.now _ _ c.as_slice-targets.result.now c.in-Assign.targets c.in-Assign.e c.in-Assign.is c.as_slice-targets.ensures) c.emit_assignment.ensures.lined

pub emit_statement-returns-in-Aug-clause-lined : goal.emit_statement-returns-in-Aug-clause-lined
emit_statement-returns-in-Aug-clause-lined t c =
    on_ok_map _ _ _ (update_lined (setting_of c.args.site) c.args.s.now _ _ c.in-Aug.target c.in-Aug.op c.in-Aug.e _ c.in-Aug.is) c.emit_update.ensures.lined

pub emit_statement-returns-in-Return-clause-lined : goal.emit_statement-returns-in-Return-clause-lined
emit_statement-returns-in-Return-clause-lined t c =
    on_ok_map _ _ _ (return_lined (setting_of c.args.site) c.args.s.now _ _ c.in-Return.value c.in-Return.is) c.emit_return.ensures.lined

pub emit_statement-returns-in-Break-clause-lined : goal.emit_statement-returns-in-Break-clause-lined
emit_statement-returns-in-Break-clause-lined t c =
    always _ _ (break_lined (setting_of c.args.site) c.args.s.now _ _ c.in-Break.is (around_by c.args.s.now.line _ _ c.leave_by.ensures.kept (c.leave_by.ensures.lined c.args.s.now.line)))

pub emit_statement-returns-in-Continue-clause-lined : goal.emit_statement-returns-in-Continue-clause-lined
emit_statement-returns-in-Continue-clause-lined t c =
    always _ _ (continue_lined (setting_of c.args.site) c.args.s.now _ _ c.in-Continue.is (around_by c.args.s.now.line _ _ c.leave_by-in-Continue.ensures.kept (c.leave_by-in-Continue.ensures.lined c.args.s.now.line)))

pub emit_statement-returns-in-Pass-clause-lined : goal.emit_statement-returns-in-Pass-clause-lined
emit_statement-returns-in-Pass-clause-lined t c = pass_lined (setting_of c.args.site) c.args.s.now c.args.b.now c.in-Pass.is

pub emit_arms-returns-clause-lined : goal.emit_arms-returns-clause-lined
emit_arms-returns-clause-lined t c l =
    arms_over (setting_of c.args.site) l c.args.arms.now c.loop-e.e-index c.args.b.now c.loop-e.b c.loop-e-test.false (c.loop-e.invariant.lined l)
