use Rattle.std.proofs.Common.{◌≡◌, refl, ◌∙◌, ap, ◌-◌, arith, Err}
use Rattle.std.proofs.lemmas.Result.{err_from_is_err_and}
use Rattle.outside_core.proofs.Fronts.{TakesFront-all}
use Rattle.c_runner.specs.declared.report.RunError.TheVariants.{WriteFault, Memory}
use Rattle.c_runner.proofs.Running.{can_step, small}
use Rattle.c_runner.proofs.Taking.{strode, NoMemory, NoSink, a_run, begins, goes_further, halts_there, hands_further, answers_early, rose_where_unread, faults_where_failed, answers_failed, answers_unsent, answers_halt, answers_report}
use Rattle.c_runner.specs.Report.{live_cells}
use Rattle.c_runner_deeds.specs.States.{Seen, seen}
use Rattle.c_runner.proofs.runner.run.Goals as goal

pub returns-in_err-table-clause-ran : goal.returns-in_err-table-clause-ran
returns-in_err-table-clause-ran g c =
    let p = err_from_is_err_and c.from_residual.result c.from_residual.ensures.1 in
    rw (p.1, p.2) (answers_early g.I.Source.tells (g.I.Source.faults c.args.input.now) (g.I.Source.faults c.args.input.now) (g.I.Source.left c.args.input.now) c.args.code.now c.args.turns g.O.Sink.tells (g.O.Sink.taken c.args.out.now) c.run_exists.ensures c.requires.well_formed (c.args.out.now ≡ c.args.out.now) Memory NoMemory refl refl)

pub returns-in_err-state-clause-ran : goal.returns-in_err-state-clause-ran
returns-in_err-state-clause-ran g c =
    let p = err_from_is_err_and c.from_residual-in_err-state.result c.from_residual-in_err-state.ensures.1 in
    rw (p.1, p.2) (answers_early g.I.Source.tells (g.I.Source.faults c.args.input.now) (g.I.Source.faults c.args.input.now) (g.I.Source.left c.args.input.now) c.args.code.now c.args.turns g.O.Sink.tells (g.O.Sink.taken c.args.out.now) c.run_exists.ensures c.requires.well_formed (c.args.out.now ≡ c.args.out.now) Memory NoMemory refl refl)

pub steps-init : goal.steps-init
steps-init g c = record {
  calm = refl;
  calm_in = refl;
  going = begins g.O.Sink.tells (g.O.Sink.taken c.args.out.now) (c.args.out.now ≡ c.args.out.now) g.I.Source.tells (g.I.Source.left c.args.input.now) c.args.code.now c.args.turns c.most_steps-left.result (seen c.in_ok-state.state) c.new-reader.result refl c.new-reader.ensures.fresh c.in_ok-state.ensures c.most_steps-left.ensures;
}

pub some_steps-requires : goal.some_steps-requires
some_steps-requires g c = (can_step _ _ _ _ _ _ _ _ _ _ _ (a_run _ _ _ _ _ _ _ _ _ _ _ _ _ c.steps.invariant.going) c.run_exists.ensures c.requires.well_formed)

pub overflow_sub-left : goal.overflow_sub-left
overflow_sub-left g c = omega (arith, c.do_lines-done.ensures.most, c.some_steps.ensures)

pub overflow_sub-left-in-steps : goal.overflow_sub-left-in-steps
overflow_sub-left-in-steps g c = (can_step _ _ _ _ _ _ _ _ _ _ _ (a_run _ _ _ _ _ _ _ _ _ _ _ _ _ (strode _ _ _ _ _ _ _ _ _ _ _ _ _ c.steps.invariant.going c.do_lines-done.result (seen c.do_lines-done.new.state) c.do_lines-done.ensures.reaches c.do_lines-done.ensures.output (omega (arith, c.do_lines-done.ensures.most, c.some_steps.ensures)))) c.run_exists.ensures c.requires.well_formed)

pub advance-requires-clause-small : goal.advance-requires-clause-small
advance-requires-clause-small g c =
    small _ _ _ _ _ _ _ _ _ _ _ (a_run _ _ _ _ _ _ _ _ _ _ _ _ _ (strode _ _ _ _ _ _ _ _ _ _ _ _ _ c.steps.invariant.going c.do_lines-done.result (seen c.do_lines-done.new.state) c.do_lines-done.ensures.reaches c.do_lines-done.ensures.output (omega (arith, c.do_lines-done.ensures.most, c.some_steps.ensures)))) c.run_keeps_counts.ensures c.run_stays_small.ensures c.requires.well_formed
    (omega (arith, c.most_steps-left.ensures))
    (can_step _ _ _ _ _ _ _ _ _ _ _ (a_run _ _ _ _ _ _ _ _ _ _ _ _ _ (strode _ _ _ _ _ _ _ _ _ _ _ _ _ c.steps.invariant.going c.do_lines-done.result (seen c.do_lines-done.new.state) c.do_lines-done.ensures.reaches c.do_lines-done.ensures.output (omega (arith, c.do_lines-done.ensures.most, c.some_steps.ensures)))) c.run_exists.ensures c.requires.well_formed)

pub steps-smaller : goal.steps-smaller
steps-smaller g c =
    omega (arith, (can_step _ _ _ _ _ _ _ _ _ _ _ (a_run _ _ _ _ _ _ _ _ _ _ _ _ _ c.steps.invariant.going) c.run_exists.ensures c.requires.well_formed))

pub returns-in-Err-clause-ran : goal.returns-in-Err-clause-ran
returns-in-Err-clause-ran g c =
    rw c.after.ensures (answers_failed g.I.Source.tells (g.I.Source.faults c.args.input.now) (g.I.Source.faults c.advance.new.input) (g.I.Source.left c.args.input.now) c.args.code.now c.args.turns g.O.Sink.tells (g.O.Sink.taken c.args.out.now) c.run_exists.ensures c.requires.well_formed (g.O.Sink.taken c.steps.out) (g.I.Source.left c.steps.input) (c.steps.out ≡ c.args.out.now) c.steps.has_output (seen c.do_lines-done.new.state) c.steps.reader (c.steps.left - c.do_lines-done.result) (strode _ _ _ _ _ _ _ _ _ _ _ _ _ c.steps.invariant.going c.do_lines-done.result (seen c.do_lines-done.new.state) c.do_lines-done.ensures.reaches c.do_lines-done.ensures.output (omega (arith, c.do_lines-done.ensures.most, c.some_steps.ensures)))
    (seen c.advance.new.state) c.advance.new.reader (g.O.Sink.taken c.advance.new.out) (g.I.Source.left c.advance.new.input) (c.advance.new.out ≡ c.steps.out) (c.advance.new.out ≡ c.args.out.now) (λ untouched still. still ∙ untouched) c.in-Err.refusal
    (rw c.steps.invariant.calm_in at c.in-Err.ensures.counted) (can_step _ _ _ _ _ _ _ _ _ _ _ (a_run _ _ _ _ _ _ _ _ _ _ _ _ _ (strode _ _ _ _ _ _ _ _ _ _ _ _ _ c.steps.invariant.going c.do_lines-done.result (seen c.do_lines-done.new.state) c.do_lines-done.ensures.reaches c.do_lines-done.ensures.output (omega (arith, c.do_lines-done.ensures.most, c.some_steps.ensures)))) c.run_exists.ensures c.requires.well_formed) c.in-Err.ensures.advances)

pub returns-in-Err-clause-input_fault : goal.returns-in-Err-clause-input_fault
returns-in-Err-clause-input_fault g c = λ has_output is.
    rose_where_unread c.steps.has_output has_output c.in-Err.refusal (Err c.after.result) _ _ (rw c.steps.invariant.calm_in at c.in-Err.ensures.counted) (ap Err c.after.ensures) is

pub returns-in-Err-clause-out_faults : goal.returns-in-Err-clause-out_faults
returns-in-Err-clause-out_faults g c =
    rw c.after.ensures (faults_where_failed c.steps.has_output c.in-Err.refusal _ _ (rw c.steps.invariant.calm at c.in-Err.ensures.out_counted))

pub steps-preserved : goal.steps-preserved
steps-preserved g c = record {
  calm = c.in_ok-hand_on_if_full-in-None.ensures.counted ∙ c.in-Ok.ensures.out_counted ∙ c.steps.invariant.calm;
  calm_in = (c.in-Ok.ensures.counted ∙ c.steps.invariant.calm_in);
  going =
      let further = goes_further g.O.Sink.tells (g.O.Sink.taken c.args.out.now) (g.O.Sink.taken c.steps.out) (c.steps.out ≡ c.args.out.now) g.I.Source.tells (g.I.Source.left c.args.input.now) (g.I.Source.left c.steps.input) c.args.code.now c.args.turns (c.steps.left - c.do_lines-done.result) c.steps.has_output (seen c.do_lines-done.new.state) c.steps.reader (strode _ _ _ _ _ _ _ _ _ _ _ _ _ c.steps.invariant.going c.do_lines-done.result (seen c.do_lines-done.new.state) c.do_lines-done.ensures.reaches c.do_lines-done.ensures.output (omega (arith, c.do_lines-done.ensures.most, c.some_steps.ensures)))
      (g.O.Sink.taken c.advance.new.out) (g.I.Source.left c.advance.new.input) (c.advance.new.out ≡ c.steps.out) (c.advance.new.out ≡ c.args.out.now) (λ untouched still. still ∙ untouched) (seen c.advance.new.state) c.advance.new.reader _ c.has_any-has_output.ensures (can_step _ _ _ _ _ _ _ _ _ _ _ (a_run _ _ _ _ _ _ _ _ _ _ _ _ _ (strode _ _ _ _ _ _ _ _ _ _ _ _ _ c.steps.invariant.going c.do_lines-done.result (seen c.do_lines-done.new.state) c.do_lines-done.ensures.reaches c.do_lines-done.ensures.output (omega (arith, c.do_lines-done.ensures.most, c.some_steps.ensures)))) c.run_exists.ensures c.requires.well_formed) (rw c.in-None.is at c.in-Ok.ensures.advances) in
      hands_further _ _ _ _ _ _ _ _ _ _ _ _ _ further (seen c.hand_on_if_full.new.state) (g.O.Sink.taken c.hand_on_if_full.new.out) (c.hand_on_if_full.new.out ≡ c.advance.new.out) (c.hand_on_if_full.new.out ≡ c.args.out.now) (λ untouched still. still ∙ untouched) c.in_ok-hand_on_if_full-in-None.ensures.taken c.hand_on_if_full.ensures.others;
}

pub returns-in_err-hand_on_if_full-in-None-clause-ran : goal.returns-in_err-hand_on_if_full-in-None-clause-ran
returns-in_err-hand_on_if_full-in-None-clause-ran g c =
    let p = err_from_is_err_and c.from_residual-in_err-hand_on_if_full-in-None.result c.from_residual-in_err-hand_on_if_full-in-None.ensures.1 in
    let further = goes_further g.O.Sink.tells (g.O.Sink.taken c.args.out.now) (g.O.Sink.taken c.steps.out) (c.steps.out ≡ c.args.out.now) g.I.Source.tells (g.I.Source.left c.args.input.now) (g.I.Source.left c.steps.input) c.args.code.now c.args.turns (c.steps.left - c.do_lines-done.result) c.steps.has_output (seen c.do_lines-done.new.state) c.steps.reader (strode _ _ _ _ _ _ _ _ _ _ _ _ _ c.steps.invariant.going c.do_lines-done.result (seen c.do_lines-done.new.state) c.do_lines-done.ensures.reaches c.do_lines-done.ensures.output (omega (arith, c.do_lines-done.ensures.most, c.some_steps.ensures)))
    (g.O.Sink.taken c.advance.new.out) (g.I.Source.left c.advance.new.input) (c.advance.new.out ≡ c.steps.out) (c.advance.new.out ≡ c.args.out.now) (λ untouched still. still ∙ untouched) (seen c.advance.new.state) c.advance.new.reader _ c.has_any-has_output.ensures (can_step _ _ _ _ _ _ _ _ _ _ _ (a_run _ _ _ _ _ _ _ _ _ _ _ _ _ (strode _ _ _ _ _ _ _ _ _ _ _ _ _ c.steps.invariant.going c.do_lines-done.result (seen c.do_lines-done.new.state) c.do_lines-done.ensures.reaches c.do_lines-done.ensures.output (omega (arith, c.do_lines-done.ensures.most, c.some_steps.ensures)))) c.run_exists.ensures c.requires.well_formed) (rw c.in-None.is at c.in-Ok.ensures.advances) in
    rw (p.1, p.2) (answers_unsent g.I.Source.tells (g.I.Source.faults c.args.input.now) (g.I.Source.faults c.advance.new.input) (g.I.Source.left c.args.input.now) c.args.code.now c.args.turns g.O.Sink.tells (g.O.Sink.taken c.args.out.now) c.run_exists.ensures c.requires.well_formed (g.O.Sink.taken c.advance.new.out) (g.I.Source.left c.advance.new.input) (c.advance.new.out ≡ c.args.out.now) _ (seen c.advance.new.state) c.advance.new.reader _ further
    (g.O.Sink.taken c.hand_on_if_full.new.out) (g.I.Source.left c.advance.new.input) (c.hand_on_if_full.new.out ≡ c.advance.new.out) (c.hand_on_if_full.new.out ≡ c.args.out.now) (λ untouched still. still ∙ untouched)
    (c.in-Ok.ensures.counted ∙ c.steps.invariant.calm_in) (record { front = c.in_err-hand_on_if_full-in-None.ensures.front; alone = c.in_err-hand_on_if_full-in-None.ensures.alone }) refl)

pub returns-in_err-hand_on-in-Some-clause-ran : goal.returns-in_err-hand_on-in-Some-clause-ran
returns-in_err-hand_on-in-Some-clause-ran g c =
    let p = err_from_is_err_and c.from_residual-in_err-hand_on-in-Some.result c.from_residual-in_err-hand_on-in-Some.ensures.1 in
    let halted = halts_there g.O.Sink.tells (g.O.Sink.taken c.args.out.now) (g.O.Sink.taken c.steps.out) (c.steps.out ≡ c.args.out.now) g.I.Source.tells (g.I.Source.left c.args.input.now) (g.I.Source.left c.steps.input) c.args.code.now c.args.turns (c.steps.left - c.do_lines-done.result) c.steps.has_output (seen c.do_lines-done.new.state) c.steps.reader (strode _ _ _ _ _ _ _ _ _ _ _ _ _ c.steps.invariant.going c.do_lines-done.result (seen c.do_lines-done.new.state) c.do_lines-done.ensures.reaches c.do_lines-done.ensures.output (omega (arith, c.do_lines-done.ensures.most, c.some_steps.ensures)))
    (g.O.Sink.taken c.advance.new.out) (g.I.Source.left c.advance.new.input) (c.advance.new.out ≡ c.steps.out) (c.advance.new.out ≡ c.args.out.now) (λ untouched still. still ∙ untouched) (seen c.advance.new.state) c.advance.new.reader _ c.has_any-has_output.ensures (can_step _ _ _ _ _ _ _ _ _ _ _ (a_run _ _ _ _ _ _ _ _ _ _ _ _ _ (strode _ _ _ _ _ _ _ _ _ _ _ _ _ c.steps.invariant.going c.do_lines-done.result (seen c.do_lines-done.new.state) c.do_lines-done.ensures.reaches c.do_lines-done.ensures.output (omega (arith, c.do_lines-done.ensures.most, c.some_steps.ensures)))) c.run_exists.ensures c.requires.well_formed) c.in-Some.ending (rw c.in-Some.is at c.in-Ok.ensures.advances) in
    rw (p.1, p.2) (answers_halt g.I.Source.tells (g.I.Source.faults c.args.input.now) (g.I.Source.faults c.advance.new.input) (g.I.Source.left c.args.input.now) c.args.code.now c.args.turns g.O.Sink.tells (g.O.Sink.taken c.args.out.now) c.run_exists.ensures c.requires.well_formed (g.O.Sink.taken c.advance.new.out) (g.I.Source.left c.advance.new.input) (c.advance.new.out ≡ c.args.out.now) _ (seen c.advance.new.state) c.advance.new.reader c.in-Some.ending halted
    (g.O.Sink.taken c.hand_on.new.out) (c.hand_on.new.out ≡ c.advance.new.out) (c.hand_on.new.out ≡ c.args.out.now) (λ untouched still. still ∙ untouched) WriteFault NoSink
    (c.in-Ok.ensures.counted ∙ c.steps.invariant.calm_in) c.in_err-hand_on-in-Some.ensures.front c.in_err-hand_on-in-Some.ensures.alone)

pub returns-in_err-report_of-in-Some-clause-ran : goal.returns-in_err-report_of-in-Some-clause-ran
returns-in_err-report_of-in-Some-clause-ran g c =
    let p = err_from_is_err_and c.from_residual-in_err-report_of-in-Some.result c.from_residual-in_err-report_of-in-Some.ensures.1 in
    let halted = halts_there g.O.Sink.tells (g.O.Sink.taken c.args.out.now) (g.O.Sink.taken c.steps.out) (c.steps.out ≡ c.args.out.now) g.I.Source.tells (g.I.Source.left c.args.input.now) (g.I.Source.left c.steps.input) c.args.code.now c.args.turns (c.steps.left - c.do_lines-done.result) c.steps.has_output (seen c.do_lines-done.new.state) c.steps.reader (strode _ _ _ _ _ _ _ _ _ _ _ _ _ c.steps.invariant.going c.do_lines-done.result (seen c.do_lines-done.new.state) c.do_lines-done.ensures.reaches c.do_lines-done.ensures.output (omega (arith, c.do_lines-done.ensures.most, c.some_steps.ensures)))
    (g.O.Sink.taken c.advance.new.out) (g.I.Source.left c.advance.new.input) (c.advance.new.out ≡ c.steps.out) (c.advance.new.out ≡ c.args.out.now) (λ untouched still. still ∙ untouched) (seen c.advance.new.state) c.advance.new.reader _ c.has_any-has_output.ensures (can_step _ _ _ _ _ _ _ _ _ _ _ (a_run _ _ _ _ _ _ _ _ _ _ _ _ _ (strode _ _ _ _ _ _ _ _ _ _ _ _ _ c.steps.invariant.going c.do_lines-done.result (seen c.do_lines-done.new.state) c.do_lines-done.ensures.reaches c.do_lines-done.ensures.output (omega (arith, c.do_lines-done.ensures.most, c.some_steps.ensures)))) c.run_exists.ensures c.requires.well_formed) c.in-Some.ending (rw c.in-Some.is at c.in-Ok.ensures.advances) in
    rw (p.1, p.2) (answers_halt g.I.Source.tells (g.I.Source.faults c.args.input.now) (g.I.Source.faults c.advance.new.input) (g.I.Source.left c.args.input.now) c.args.code.now c.args.turns g.O.Sink.tells (g.O.Sink.taken c.args.out.now) c.run_exists.ensures c.requires.well_formed (g.O.Sink.taken c.advance.new.out) (g.I.Source.left c.advance.new.input) (c.advance.new.out ≡ c.args.out.now) _ (seen c.advance.new.state) c.advance.new.reader c.in-Some.ending halted
    (g.O.Sink.taken c.hand_on.new.out) (c.hand_on.new.out ≡ c.advance.new.out) (c.hand_on.new.out ≡ c.args.out.now) (λ untouched still. still ∙ untouched) Memory NoMemory
    (c.in-Ok.ensures.counted ∙ c.steps.invariant.calm_in) (λ t. TakesFront-all _ _ _ (c.in_ok-hand_on-in-Some.ensures.taken t)) c.in_ok-hand_on-in-Some.ensures.alone)

pub returns-in-Some-clause-ran : goal.returns-in-Some-clause-ran
returns-in-Some-clause-ran g c =
    let halted = halts_there g.O.Sink.tells (g.O.Sink.taken c.args.out.now) (g.O.Sink.taken c.steps.out) (c.steps.out ≡ c.args.out.now) g.I.Source.tells (g.I.Source.left c.args.input.now) (g.I.Source.left c.steps.input) c.args.code.now c.args.turns (c.steps.left - c.do_lines-done.result) c.steps.has_output (seen c.do_lines-done.new.state) c.steps.reader (strode _ _ _ _ _ _ _ _ _ _ _ _ _ c.steps.invariant.going c.do_lines-done.result (seen c.do_lines-done.new.state) c.do_lines-done.ensures.reaches c.do_lines-done.ensures.output (omega (arith, c.do_lines-done.ensures.most, c.some_steps.ensures)))
    (g.O.Sink.taken c.advance.new.out) (g.I.Source.left c.advance.new.input) (c.advance.new.out ≡ c.steps.out) (c.advance.new.out ≡ c.args.out.now) (λ untouched still. still ∙ untouched) (seen c.advance.new.state) c.advance.new.reader _ c.has_any-has_output.ensures (can_step _ _ _ _ _ _ _ _ _ _ _ (a_run _ _ _ _ _ _ _ _ _ _ _ _ _ (strode _ _ _ _ _ _ _ _ _ _ _ _ _ c.steps.invariant.going c.do_lines-done.result (seen c.do_lines-done.new.state) c.do_lines-done.ensures.reaches c.do_lines-done.ensures.output (omega (arith, c.do_lines-done.ensures.most, c.some_steps.ensures)))) c.run_exists.ensures c.requires.well_formed) c.in-Some.ending (rw c.in-Some.is at c.in-Ok.ensures.advances) in
    answers_report g.I.Source.tells (g.I.Source.faults c.args.input.now) (g.I.Source.faults c.advance.new.input) (g.I.Source.left c.args.input.now) c.args.code.now c.args.turns g.O.Sink.tells (g.O.Sink.taken c.args.out.now) c.run_exists.ensures c.requires.well_formed (g.O.Sink.taken c.advance.new.out) (g.I.Source.left c.advance.new.input) (c.advance.new.out ≡ c.args.out.now) _ (seen c.advance.new.state) c.advance.new.reader c.in-Some.ending halted
    (g.O.Sink.taken c.hand_on.new.out) (c.hand_on.new.out ≡ c.advance.new.out) (c.hand_on.new.out ≡ c.args.out.now) (λ untouched still. still ∙ untouched)
    (c.in-Ok.ensures.counted ∙ c.steps.invariant.calm_in) c.in_ok-hand_on-in-Some.ensures.taken c.in_ok-hand_on-in-Some.ensures.alone _
    c.in_ok-report_of-in-Some.ensures.ending (c.in_ok-report_of-in-Some.ensures.live ∙ ap (λ (n : Seen). live_cells c.args.code.now.classes n.cells) c.hand_on.ensures.others) (c.in_ok-report_of-in-Some.ensures.turns ∙ ap (λ (n : Seen). n.turns) c.hand_on.ensures.others) c.in_ok-report_of-in-Some.ensures.output
