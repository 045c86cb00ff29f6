use Rattle.std.proofs.Common.{refl, sym, append-nil, inl, inr}
use Rattle.outside_core.specs.Counts.{has_risen}
use Rattle.c_runner.specs.Ran.{given_items}
use Rattle.mypyc_top_words.specs.Words.{texts, words_of}
use Rattle.mypyc_top_status.specs.Output.{output_text}
use Rattle.mypyc_top_status.specs.Endings.{machine_status}
use Rattle.mypyc_top_running.specs.Programs.{program_text, program_line}
use Rattle.mypyc_top_running.proofs.RunGaveLemmas.{given_lines}
use Rattle.mypyc_top.specs.Reads.{runs_program}
use Rattle.mypyc_top.proofs.AllowedLemmas.{sent_is_replied, sent_is_calm, yields_allowed, sent_allowed, run_allowed, usage_only, usage_comes}
use Rattle.mypyc_top.proofs.Statuses.{by_bytes, complete}
use Rattle.mypyc_top.proofs.ReadsLemmas.{none_taken, run_at_most, run_read, was_read, not_read, sent_read, ran_alone}
use Rattle.mypyc_top.proofs.top.mypyc.Goals as goal

pub returns-in-Ok-Send-clause-answer : goal.returns-in-Ok-Send-clause-answer
returns-in-Ok-Send-clause-answer g c = λ tells below.
    let fit = rw c.in-Ok-Send.field-0-is at c.in-Ok-Send.ensures.fit in
    let planned = rw c.in-Ok-Send.field-0-is at c.in-Ok-Send.ensures.answer in
    let faults = g.I.Source.faults c.args.input.now in
    let items = given_items (has_risen faults faults) (g.I.Source.left c.args.input.now) (g.I.Source.left c.args.input.now) in
    let reply = c.in-Ok-Send.reply in (
      items,
      (given_lines (has_risen faults faults) _ _, λ _ _. refl),
      inl (record {
        text = output_text reply.out;
        lines = reply.err.items;
        result = reply.status;
        answer = planned tells below items;
        gave = c.send_reply.ensures.gave (sent_is_replied reply.status fit);
        out_alone = c.send_reply.ensures.out_alone refl;
        err_alone = λ none. inr (c.send_reply.ensures.err_alone none);
      }),
    )

pub returns-in-Ok-Send-clause-write_fault : goal.returns-in-Ok-Send-clause-write_fault
returns-in-Ok-Send-clause-write_fault g c =
    let fit = rw c.in-Ok-Send.field-0-is at c.in-Ok-Send.ensures.fit in
    c.send_reply.ensures.write_fault (sent_is_replied c.in-Ok-Send.reply.status fit)

pub returns-in-Ok-Send-clause-input_fault : goal.returns-in-Ok-Send-clause-input_fault
returns-in-Ok-Send-clause-input_fault g c =
    let fit = rw c.in-Ok-Send.field-0-is at c.in-Ok-Send.ensures.fit in
    sent_is_calm _ c.in-Ok-Send.reply.status c.send_reply.result fit c.send_reply.ensures.status

pub returns-in-Ok-Run-clause-answer : goal.returns-in-Ok-Run-clause-answer
returns-in-Ok-Run-clause-answer g c = λ tells below.
    let planned = rw c.in-Ok-Run.field-0-is at c.in-Ok-Run.ensures.answer in
    let r = c.run_and_send.ensures.gave in
    let program = c.in-Ok-Run.program in
    let stop = r.2.stop in (
      r.0,
      r.1,
      inl (record {
        text = program_text program stop;
        lines = program_line program stop;
        result = machine_status stop.ending;
        answer = planned tells below r.0 r.1.0 stop r.2.run;
        gave = r.2.gave;
        out_alone = r.2.out_alone;
        err_alone = r.2.err_alone;
      }),
    )

pub returns-in-Err-clause-answer : goal.returns-in-Err-clause-answer
returns-in-Err-clause-answer g c = λ tells below.
    let faults = g.I.Source.faults c.args.input.now in
    let items = given_items (has_risen faults faults) (g.I.Source.left c.args.input.now) (g.I.Source.left c.args.input.now) in (
      items,
      (given_lines (has_risen faults faults) _ _, λ _ _. refl),
      inr (record {
        status = c.out_of_memory.ensures.status;
        out_nothing = λ _. sym (append-nil (g.O.Sink.taken c.args.out.now));
        err_front = c.out_of_memory.ensures.front;
        out_alone = refl;
      }),
    )

pub returns-in-Ok-Send-clause-reads : goal.returns-in-Ok-Send-clause-reads
returns-in-Ok-Send-clause-reads g c = λ tells runs ran.
    let planned = rw c.in-Ok-Send.field-0-is at c.in-Ok-Send.ensures.runs in
    sent_read (runs_program (words_of (texts c.args.words.now))) c.in-Ok-Send.reply c.send_reply.result _ _ planned runs c.send_reply.ensures.status ran refl

pub returns-in-Err-clause-reads : goal.returns-in-Err-clause-reads
returns-in-Err-clause-reads g c = λ tells runs ran. not_read c.out_of_memory.result _ _ (inr c.out_of_memory.ensures.status) refl

pub returns-in-Ok-Send-clause-reads_at_most : goal.returns-in-Ok-Send-clause-reads_at_most
returns-in-Ok-Send-clause-reads_at_most g c = λ tells. none_taken _

pub returns-in-Err-clause-reads_at_most : goal.returns-in-Err-clause-reads_at_most
returns-in-Err-clause-reads_at_most g c = λ tells. none_taken _

pub returns-in-Ok-Run-clause-reads : goal.returns-in-Ok-Run-clause-reads
returns-in-Ok-Run-clause-reads g c = λ tells runs ran.
    let planned = rw c.in-Ok-Run.field-0-is at c.in-Ok-Run.ensures.answer in
    let r = c.run_and_send.ensures.reads tells in
    let of_text = rw c.in-Ok-Run.field-0-is at c.in-Ok-Run.ensures.text in
    let fit = rw c.in-Ok-Run.field-0-is at c.in-Ok-Run.ensures.fit in
    let turns = rw c.in-Ok-Run.field-0-is at c.in-Ok-Run.ensures.turns in
    was_read c.run_and_send.result _ _ (r.0, r.1, run_read c.in-Ok-Run.program r.0 _ _ _ _ _ _ c.run_and_send.result turns fit.0 (λ stop run file_tells below. planned file_tells below r.0 r.1.0 stop run) of_text r.2)

pub returns-in-Ok-Run-clause-reads_at_most : goal.returns-in-Ok-Run-clause-reads_at_most
returns-in-Ok-Run-clause-reads_at_most g c = λ tells.
    let r = c.run_and_send.ensures.reads tells in run_at_most c.in-Ok-Run.program r.0 _ _ _ c.run_and_send.result r.2

pub returns-in-Ok-Run-clause-input : goal.returns-in-Ok-Run-clause-input
returns-in-Ok-Run-clause-input g c = λ left.
    let planned = rw c.in-Ok-Run.field-0-is at c.in-Ok-Run.ensures.runs in
    ran_alone _ (words_of (texts c.args.words.now)) c.in-Ok-Run.program c.run_and_send.result planned c.run_and_send.ensures.status left

-- ---- the usage line

pub returns-in-Ok-Send-clause-usage : goal.returns-in-Ok-Send-clause-usage
returns-in-Ok-Send-clause-usage g c =
    let planned = rw c.in-Ok-Send.field-0-is at c.in-Ok-Send.ensures.allowed in
    usage_only _ c.send_reply.result (sent_allowed _ c.in-Ok-Send.reply c.send_reply.result planned c.send_reply.ensures.status)

pub returns-in-Ok-Send-clause-usage_comes : goal.returns-in-Ok-Send-clause-usage_comes
returns-in-Ok-Send-clause-usage_comes g c =
    let planned = rw c.in-Ok-Send.field-0-is at c.in-Ok-Send.ensures.allowed in
    usage_comes _ c.send_reply.result (sent_allowed _ c.in-Ok-Send.reply c.send_reply.result planned c.send_reply.ensures.status)

pub returns-in-Ok-Run-clause-usage : goal.returns-in-Ok-Run-clause-usage
returns-in-Ok-Run-clause-usage g c =
    let planned = rw c.in-Ok-Run.field-0-is at c.in-Ok-Run.ensures.allowed in
    let r = c.run_and_send.ensures.gave in
    usage_only _ c.run_and_send.result (run_allowed _ c.in-Ok-Run.program r.0 _ _ _ _ c.run_and_send.result planned r.1.0 r.2)

pub returns-in-Ok-Run-clause-usage_comes : goal.returns-in-Ok-Run-clause-usage_comes
returns-in-Ok-Run-clause-usage_comes g c =
    let planned = rw c.in-Ok-Run.field-0-is at c.in-Ok-Run.ensures.allowed in
    let r = c.run_and_send.ensures.gave in
    usage_comes _ c.run_and_send.result (run_allowed _ c.in-Ok-Run.program r.0 _ _ _ _ c.run_and_send.result planned r.1.0 r.2)

pub returns-in-Err-clause-usage : goal.returns-in-Err-clause-usage
returns-in-Err-clause-usage g c =
    usage_only _ c.out_of_memory.result (yields_allowed _ c.out_of_memory.result (inr c.out_of_memory.ensures.status))

pub returns-in-Err-clause-usage_comes : goal.returns-in-Err-clause-usage_comes
returns-in-Err-clause-usage_comes g c = λ _. inr (inr c.out_of_memory.ensures.status)

-- ---- the status for a file whose bytes the files tell, where no call on them failed, and where none on a sink did

pub returns-in-Ok-Send-clause-by_bytes : goal.returns-in-Ok-Send-clause-by_bytes
returns-in-Ok-Send-clause-by_bytes g c = λ bytes tells below named calm.
    let a = returns-in-Ok-Send-clause-answer g c tells below in
    (a.0, a.1, by_bytes (texts c.args.words.now) (g.F.Files.content c.args.files.now) bytes a.0 _ _ _ _ _ _ _ c.send_reply.result named calm a.2)

pub returns-in-Ok-Send-clause-complete : goal.returns-in-Ok-Send-clause-complete
returns-in-Ok-Send-clause-complete g c = λ bytes tells below named calm out_calm err_calm.
    let known = returns-in-Ok-Send-clause-by_bytes g c bytes tells below named calm in
    (known.0, known.1, complete _ c.send_reply.result _ _ known.2 (returns-in-Ok-Send-clause-write_fault g c) out_calm err_calm)

pub returns-in-Ok-Run-clause-by_bytes : goal.returns-in-Ok-Run-clause-by_bytes
returns-in-Ok-Run-clause-by_bytes g c = λ bytes tells below named calm.
    let a = returns-in-Ok-Run-clause-answer g c tells below in
    (a.0, a.1, by_bytes (texts c.args.words.now) (g.F.Files.content c.args.files.now) bytes a.0 _ _ _ _ _ _ _ c.run_and_send.result named calm a.2)

pub returns-in-Ok-Run-clause-complete : goal.returns-in-Ok-Run-clause-complete
returns-in-Ok-Run-clause-complete g c = λ bytes tells below named calm out_calm err_calm.
    let known = returns-in-Ok-Run-clause-by_bytes g c bytes tells below named calm in
    (known.0, known.1, complete _ c.run_and_send.result _ _ known.2 c.run_and_send.ensures.write_fault out_calm err_calm)

pub returns-in-Err-clause-by_bytes : goal.returns-in-Err-clause-by_bytes
returns-in-Err-clause-by_bytes g c = λ bytes tells below named calm.
    let a = returns-in-Err-clause-answer g c tells below in (a.0, a.1, inr (inr c.out_of_memory.ensures.status))

pub returns-in-Err-clause-complete : goal.returns-in-Err-clause-complete
returns-in-Err-clause-complete g c = λ bytes tells below named calm out_calm err_calm.
    let a = returns-in-Err-clause-answer g c tells below in (a.0, a.1, inr c.out_of_memory.ensures.status)
