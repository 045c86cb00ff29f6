use Rattle.std.proofs.Common.{refl, subst, ℕ, ◌⊎◌, inl, inr}
use Rattle.outside_core.specs.Counts.{Rose}
use Rattle.mypyc_top_status.specs.Output.{output_text}
use Rattle.mypyc_top_status.specs.Sinks.{sink_call}
use Rattle.mypyc_top_running.proofs.RunGaveLemmas.{rest_is_replied, rest_sent, not_written, no_memory, sent_run_status}
use Rattle.mypyc_top_running.proofs.TookLemmas.{gave_grows, took_sent, took_refused, ending_sent}
use Rattle.mypyc_top_running.proofs.running.run_and_send.Goals as goal

pub returns-in-Ok-clause-gave : goal.returns-in-Ok-clause-gave
returns-in-Ok-clause-gave g c =
    let r = c.in-Ok.ensures.ran in
    (r.0, r.1, rest_sent c.args.program.now r.0 r.2.0 g.O.Sink.tells _ _ _ _ c.in-Ok.rest c.send_reply.result c.args.out.now c.run_program.new.out c.send_reply.new.out c.args.err.now c.send_reply.new.err r.2.1 r.2.2 r.2.3 c.send_reply.ensures.gave c.send_reply.ensures.out_alone c.send_reply.ensures.err_alone)

pub returns-in-Ok-clause-write_fault : goal.returns-in-Ok-clause-write_fault
returns-in-Ok-clause-write_fault g c = λ e.
    let r = c.in-Ok.ensures.ran in
    let P : ℕ → Type 0 = λ n. Rose n (g.O.Sink.faults c.send_reply.new.out) ⊎ Rose (g.E.Sink.faults c.args.err.now) (g.E.Sink.faults c.send_reply.new.err) in
    subst P c.in-Ok.ensures.calm (c.send_reply.ensures.write_fault (rest_is_replied c.args.program.now r.2.0 _ c.in-Ok.rest r.2.2) e)

pub returns-in-Err-WriteFault-clause-gave : goal.returns-in-Err-WriteFault-clause-gave
returns-in-Err-WriteFault-clause-gave g c =
    let r = c.in-Err-WriteFault.ensures.ran in
    (r.0, r.1, not_written c.args.program.now r.0 r.2.0 _ g.E.Sink.tells (g.E.Sink.taken c.args.err.now) c.args.out.now c.run_program.new.out c.args.err.now r.2.1 r.2.2 r.2.3)

pub returns-in-Err-Memory-clause-gave : goal.returns-in-Err-Memory-clause-gave
returns-in-Err-Memory-clause-gave g c =
    let r = c.in-Err-Memory.ensures.ran in
    (r.0, r.1, no_memory c.args.program.now r.0 r.2.0 _ _ c.out_of_memory.result c.args.out.now c.run_program.new.out _ r.2.1 r.2.2 c.out_of_memory.ensures.status c.out_of_memory.ensures.front r.2.3)

pub returns-in-Ok-clause-status : goal.returns-in-Ok-clause-status
returns-in-Ok-clause-status g c = let r = c.in-Ok.ensures.ran in sent_run_status c.args.program.now r.2.0 _ c.in-Ok.rest c.send_reply.result r.2.2 c.send_reply.ensures.status

pub returns-in-Ok-clause-reads : goal.returns-in-Ok-clause-reads
returns-in-Ok-clause-reads g c = λ tells.
    let r = c.in-Ok.ensures.ran in (
      r.0,
      r.1,
      record {
        stop = r.2.0;
        run = r.2.1;
        ending = ending_sent c.in-Ok.rest.reply.status c.send_reply.result _ r.2.2.1.2 c.send_reply.ensures.status;
        took =
            took_sent c.args.program.now.code c.args.program.now.turns r.0 r.2.0 _ _ c.in-Ok.rest.reply.status c.send_reply.result g.O.Sink.tells
            (g.O.Sink.taken c.args.out.now) (g.O.Sink.taken c.run_program.new.out) (g.O.Sink.taken c.send_reply.new.out)
            (gave_grows g.O.Sink.tells (g.O.Sink.taken c.run_program.new.out) (g.O.Sink.taken c.send_reply.new.out)
            (sink_call g.E.Sink.tells (g.E.Sink.taken c.args.err.now) (g.E.Sink.taken c.send_reply.new.err))
            (output_text c.in-Ok.rest.reply.out) c.in-Ok.rest.reply.err.items c.in-Ok.rest.reply.status c.send_reply.result
            (c.send_reply.ensures.gave (rest_is_replied c.args.program.now r.2.0 _ c.in-Ok.rest r.2.2)))
            r.2.1 r.2.2.0 r.2.2.1.2 c.send_reply.ensures.status (r.2.4 tells);
      },
    )

pub returns-in-Err-WriteFault-clause-reads : goal.returns-in-Err-WriteFault-clause-reads
returns-in-Err-WriteFault-clause-reads g c = λ tells.
    let r = c.in-Err-WriteFault.ensures.ran in (r.0, r.1, record { stop = r.2.0; run = r.2.1; ending = inr (inl refl); took = r.2.4 tells })

pub returns-in-Err-Memory-clause-reads : goal.returns-in-Err-Memory-clause-reads
returns-in-Err-Memory-clause-reads g c = λ tells.
    let r = c.in-Err-Memory.ensures.ran in (
      r.0,
      r.1,
      record {
        stop = r.2.0;
        run = r.2.1;
        ending = inr (inr c.out_of_memory.ensures.status);
        took =
            took_refused c.args.program.now.code c.args.program.now.turns r.0 r.2.0 _ _ c.out_of_memory.result
            (sink_call g.O.Sink.tells (g.O.Sink.taken c.args.out.now) (g.O.Sink.taken c.run_program.new.out)) c.out_of_memory.ensures.status (r.2.4 tells);
      },
    )
