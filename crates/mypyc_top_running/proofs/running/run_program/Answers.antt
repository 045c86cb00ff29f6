use Rattle.std.proofs.Common.{inr}
use Rattle.c_runner_deeds.specs.States.{ending_of}
use Rattle.mypyc_top_status.specs.Sinks.{sink_call}
use Rattle.mypyc_top_running.proofs.RunGaveLemmas.{ended, has_of_run, broken}
use Rattle.mypyc_top_running.proofs.TookLemmas.{took_ended, took_broken}
use Rattle.mypyc_top_running.proofs.running.run_program.Goals as goal

pub returns-in-Ok-clause-ran : goal.returns-in-Ok-clause-ran
returns-in-Ok-clause-ran g c =
    let r = c.in-Ok.ensures.ran in
    let ran = r.2.2 in
    let out = sink_call g.O.Sink.tells (g.O.Sink.taken c.args.out.now) (g.O.Sink.taken c.run.new.out) in
    let has = has_of_run r.2.0 c.in-Ok.report.has_output c.rest_of.result ran.0.same_output c.rest_of.ensures.output in
    (r.0, r.1, (r.2.0, r.2.1, ended c.args.program.now r.2.0 out (ending_of c.in-Ok.report.ending) c.in-Ok.report.live c.rest_of.result ran.1 ran.0.same_ending ran.0.same_cells c.rest_of.ensures.ok has, r.2.3, λ tells. took_ended c.args.program.now r.0 r.2.0 _ _ c.rest_of.result out r.2.1 ran.1 (r.2.4 tells)))

pub returns-in-Err-InputFault-clause-ran : goal.returns-in-Err-InputFault-clause-ran
returns-in-Err-InputFault-clause-ran g c =
    let r = c.in-Err-InputFault.ensures.ran in
    let ran = rw c.in-Err-InputFault.field-0-is at r.2.2 in
    let out = sink_call g.O.Sink.tells (g.O.Sink.taken c.args.out.now) (g.O.Sink.taken c.run.new.out) in
    let has = has_of_run r.2.0 c.in-Err-InputFault.has_output c.broken_off.result ran.2 c.broken_off.ensures.output in
    (r.0, r.1, (r.2.0, r.2.1, broken c.args.program.now r.2.0 out c.broken_off.result ran.1 ran.0 c.broken_off.ensures.ok has, r.2.3, λ tells. took_broken c.args.program.now r.0 r.2.0 _ _ c.broken_off.result out ran.0 c.broken_off.ensures.ok (rw c.in-Err-InputFault.field-0-is at (r.2.4 tells))))

pub returns-in-Err-WriteFault-clause-ran : goal.returns-in-Err-WriteFault-clause-ran
returns-in-Err-WriteFault-clause-ran g c =
    let r = c.in-Err-WriteFault.ensures.ran in
    (r.0, r.1, (r.2.0, r.2.1, rw c.in-Err-WriteFault.field-0-is at r.2.2, r.2.3, λ tells. inr (rw c.in-Err-WriteFault.field-0-is at (r.2.4 tells))))

pub returns-in-Err-Memory-clause-ran : goal.returns-in-Err-Memory-clause-ran
returns-in-Err-Memory-clause-ran g c =
    let r = c.in-Err-Memory.ensures.ran in
    (r.0, r.1, (r.2.0, r.2.1, rw c.in-Err-Memory.field-0-is at r.2.2, r.2.3, λ tells. inr (rw c.in-Err-Memory.field-0-is at (r.2.4 tells))))
