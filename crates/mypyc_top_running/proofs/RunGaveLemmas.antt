-- What the sinks took of a program that was run.
use Rattle.std.proofs.Common.{◌≡◌, refl, sym, ◌∙◌, ap, subst, ℕ, Bool, true, false, IsTrue, List, [], ◌∷◌, ◌++◌, append_assoc, Some, Result, Ok, Err, IfOk, ◌⊎◌, inl, inr}
use Rattle.value_core.specs.Items.{Items, AtEof, AtFailure}
use Rattle.outside_core.specs.Bytes.{bytes_between}
use Rattle.value_core.specs.Ending.{Done, Raised, Cut, Over, Broken}
use Rattle.c_core.specs.Step.{MachineEnding, Ended, Faulted}
use Rattle.c_core.specs.Run.{Stop, machine_run}
use Rattle.c_runner.specs.declared.report.LiveCell.{LiveCell}
use Rattle.c_runner_deeds.specs.Handing.{has_bytes}
use Rattle.c_runner.specs.Ran.{AreLines, given_items}
use Rattle.mypyc_top_status.specs.declared.status.Status.{Status}
use Rattle.mypyc_top_status.specs.declared.status.Status.TheVariants as status
use Rattle.mypyc_top_status.specs.Output.{output_text}
use Rattle.mypyc_top_status.specs.ErrorLines.{memory_line, input_line}
use Rattle.mypyc_top_status.specs.Endings.{machine_status}
use Rattle.mypyc_top_status.specs.Replies.{IsReplied, is_run_status}
use Rattle.mypyc_top_status.specs.Sinks.{SinkCall, sink_call, Took, TookFront}
use Rattle.mypyc_top_status.specs.Gave.{Gave}
use Rattle.mypyc_top_running.specs.declared.running.Program.{Program}
use Rattle.mypyc_top_running.specs.declared.running.Rest.{Rest}
use Rattle.mypyc_top_running.specs.declared.running.Unfinished.{Unfinished}
use Rattle.mypyc_top_running.specs.Summary.{cells_left}
use Rattle.mypyc_top_running.specs.Programs.{behind_output, behind, program_text, program_line, IsRest, Finishes, RunGave}
use Rattle.outside_core.proofs.Fronts.{TakesFront-none, TakesFront-all, TakesFront-before, TakesFront-after}

-- the lines that a source gave are those of bytes
pub given_lines : (rises : Bool) (before after : List ℕ) → AreLines (given_items rises before after)
given_lines false before after = (before, (AtEof, refl))
given_lines true before after = (bytes_between before after, (AtFailure, refl))

-- whether there are bytes
no_bytes : (b : Bool) (text : List ℕ) → b ≡ has_bytes text → text ≡ [] → b ≡ false
no_bytes b text is none = is ∙ ap has_bytes none

-- a run that ended, or could not read its input
pub ended : (program : Program) (stop : Stop) (out : SinkCall) (ending : MachineEnding) (cells : List LiveCell) (r : Result Rest Unfinished) → (IsTrue out.tells → out.after ≡ out.before ++ stop.state.output) → ending ≡ stop.ending → cells ≡ cells_left program.code stop → IfOk r (λ rest. IsRest program.has_summary ending cells rest.reply) → IfOk r (λ rest. stop.state.output ≡ [] → rest.has_output ≡ false) → Finishes program stop out r
ended program stop out ending cells (Ok rest) took e l rests has =
    let P : MachineEnding → Type 0 = λ x. IsRest program.has_summary x cells rest.reply in
    let Q : List LiveCell → Type 0 = λ x. IsRest program.has_summary stop.ending x rest.reply in
    (took, subst Q l (subst P e rests), has)
ended program stop out ending cells (Err unfinished) took e l rests has = λ h. TakesFront-all out.before out.after stop.state.output (took h)

pub has_of_run : (stop : Stop) (has : Bool) (r : Result Rest Unfinished) → has ≡ has_bytes stop.state.output → IfOk r (λ rest. rest.has_output ≡ has) → IfOk r (λ rest. stop.state.output ≡ [] → rest.has_output ≡ false)
has_of_run stop has (Ok rest) is same = λ none. same ∙ no_bytes has stop.state.output is none
has_of_run stop has (Err unfinished) is same = same

nothing_behind : (b : Bool) (cells : List LiveCell) → behind_output b (Ended Broken) cells ≡ []
nothing_behind true cells = refl
nothing_behind false cells = refl

abbrev IsBroken : Rest → Type 0
IsBroken rest = (output_text rest.reply.out ≡ []) × (rest.reply.err.items ≡ input_line) × (rest.reply.status ≡ status.InputFault)

broken_rest : (b : Bool) (cells : List LiveCell) (r : Result Rest Unfinished) → IfOk r IsBroken → IfOk r (λ rest. IsRest b (Ended Broken) cells rest.reply)
broken_rest b cells (Ok rest) p = (p.0 ∙ sym (nothing_behind b cells), p.1, p.2)
broken_rest b cells (Err unfinished) p = p

pub broken : (program : Program) (stop : Stop) (out : SinkCall) (r : Result Rest Unfinished) → (IsTrue out.tells → out.after ≡ out.before ++ stop.state.output) → stop.ending ≡ Ended Broken → IfOk r IsBroken → IfOk r (λ rest. stop.state.output ≡ [] → rest.has_output ≡ false) → Finishes program stop out r
broken program stop out r took e rests has =
    ended program stop out (Ended Broken) (cells_left program.code stop) r took (sym e) refl (broken_rest program.has_summary (cells_left program.code stop) r rests) has

-- behind what the output took already
module _ (tells : Bool) (o0 o1 o2 : List ℕ) (err : SinkCall) (text b l : List ℕ) (s : Status) (took : IsTrue tells → o1 ≡ o0 ++ text) where
  both : Took (sink_call tells o1 o2) b → Took (sink_call tells o0 o2) (text ++ b)
  both t = λ h. t h ∙ ap (λ x. x ++ b) (took h) ∙ append_assoc o0 text b

  front : TookFront (sink_call tells o1 o2) b → TookFront (sink_call tells o0 o2) (text ++ b)
  front f = λ h. TakesFront-after o0 o1 o2 text b (took h) (f h)

  gave_behind : (t : Status) → Gave (sink_call tells o1 o2) err b l s t → Gave (sink_call tells o0 o2) err (text ++ b) l s t
  gave_behind status.WriteFault g = (front g.0, g.1)
  gave_behind status.Memory g = (front g.0, g.1)
  gave_behind status.Done g = (g.0, both g.1, g.2)
  gave_behind status.Diagnosed g = (g.0, both g.1, g.2)
  gave_behind status.Usage g = (g.0, both g.1, g.2)
  gave_behind status.OpenFault g = (g.0, both g.1, g.2)
  gave_behind status.ReadFault g = (g.0, both g.1, g.2)
  gave_behind status.TooLarge g = (g.0, both g.1, g.2)
  gave_behind status.Raised g = (g.0, both g.1, g.2)
  gave_behind status.Cut g = (g.0, both g.1, g.2)
  gave_behind status.TextRefused g = (g.0, both g.1, g.2)
  gave_behind status.Faulted g = (g.0, both g.1, g.2)
  gave_behind status.InputOver g = (g.0, both g.1, g.2)
  gave_behind status.InputFault g = (g.0, both g.1, g.2)

ending_is_replied : (e : MachineEnding) → IsReplied (machine_status e)
ending_is_replied (Ended Done) = refl
ending_is_replied (Ended (Raised e)) = refl
ending_is_replied (Ended Cut) = refl
ending_is_replied (Ended Over) = refl
ending_is_replied (Ended Broken) = refl
ending_is_replied (Faulted f) = refl

pub rest_is_replied : (program : Program) (stop : Stop) (out : SinkCall) (rest : Rest) → Finishes program stop out (Ok rest) → IsReplied rest.reply.status
rest_is_replied program stop out rest f = subst IsReplied (sym f.1.2) (ending_is_replied stop.ending)

-- where there is nothing in two texts together, there is nothing in either
first_none : (a b : List ℕ) → a ++ b ≡ [] → a ≡ []
first_none [] b e = refl
first_none (x ∷ a) b e = absurd (cc)

second_none : (a b : List ℕ) → a ++ b ≡ [] → b ≡ []
second_none [] b e = e
second_none (x ∷ a) b e = absurd (cc)

-- the rest was sent
pub rest_sent : {S T : Type 0} (program : Program) (items : Items) (stop : Stop) (tells : Bool) (o0 o1 o2 : List ℕ) (err : SinkCall) (rest : Rest) (s : Status) (out0 out1 out2 : S) (err0 err1 : T) → machine_run program.turns items program.code ≡ Some stop → Finishes program stop (sink_call tells o0 o1) (Ok rest) → (stop.state.output ≡ [] → out1 ≡ out0) → (IsReplied rest.reply.status → Gave (sink_call tells o1 o2) err (output_text rest.reply.out) rest.reply.err.items rest.reply.status s) → (rest.has_output ≡ false → output_text rest.reply.out ≡ [] → out2 ≡ out1) → (rest.reply.err.items ≡ [] → err1 ≡ err0) → RunGave program items (sink_call tells o0 o2) err (out2 ≡ out0) (err1 ≡ err0) s
rest_sent program items stop tells o0 o1 o2 err rest s out0 out1 out2 err0 err1 run f alone sent out_sent err_sent =
    let out = sink_call tells o0 o2 in
    let text = stop.state.output in
    let g = gave_behind tells o0 o1 o2 err text (output_text rest.reply.out) rest.reply.err.items rest.reply.status f.0 s (sent (rest_is_replied program stop (sink_call tells o0 o1) rest f)) in
    let P : List ℕ → Type 0 = λ x. Gave out err (text ++ x) rest.reply.err.items rest.reply.status s in
    let Q : List ℕ → Type 0 = λ x. Gave out err (program_text program stop) x rest.reply.status s in
    let R : Status → Type 0 = λ x. Gave out err (program_text program stop) (program_line program stop) x s in
    record {
      stop = stop;
      run = run;
      gave = subst R f.1.2 (subst Q f.1.1 (subst P f.1.0 g));
      out_alone = λ none.
          let nothing : text ≡ [] = first_none text (behind program stop) none in
          out_sent (f.2 nothing) (f.1.0 ∙ second_none text (behind program stop) none) ∙ alone nothing;
      err_alone = λ none. inr (err_sent (f.1.1 ∙ none));
    }

-- the run was not finished
out_front : (program : Program) (stop : Stop) (out : SinkCall) → TookFront out stop.state.output → TookFront out (program_text program stop)
out_front program stop out f = λ h. TakesFront-before out.before out.after stop.state.output _ (f h)

pub not_written : {S T : Type 0} (program : Program) (items : Items) (stop : Stop) (out : SinkCall) (tells : Bool) (old : List ℕ) (out0 out1 : S) (err0 : T) → machine_run program.turns items program.code ≡ Some stop → TookFront out stop.state.output → (stop.state.output ≡ [] → out1 ≡ out0) → RunGave program items out (sink_call tells old old) (out1 ≡ out0) (err0 ≡ err0) status.WriteFault
not_written program items stop out tells old out0 out1 err0 run f alone = record {
  stop = stop;
  run = run;
  gave = (out_front program stop out f, λ h. TakesFront-none old old (program_line program stop) refl);
  out_alone = λ none. alone (first_none stop.state.output (behind program stop) none);
  err_alone = λ none. inr refl;
}

pub no_memory : {S : Type 0} (program : Program) (items : Items) (stop : Stop) (out err : SinkCall) (s : Status) (out0 out1 : S) (ErrAlone : Type 0) → machine_run program.turns items program.code ≡ Some stop → TookFront out stop.state.output → s ≡ status.Memory → TookFront err memory_line → (stop.state.output ≡ [] → out1 ≡ out0) → RunGave program items out err (out1 ≡ out0) ErrAlone s
no_memory program items stop out err s out0 out1 ErrAlone run f e m alone =
    let P : Status → Type 0 = λ x. RunGave program items out err (out1 ≡ out0) ErrAlone x in
    subst P (sym e) (record {
      stop = stop;
      run = run;
      gave = (out_front program stop out f, m);
      out_alone = λ none. alone (first_none stop.state.output (behind program stop) none);
      err_alone = λ none. inl refl;
    })

-- the statuses of a program that was run
run_status_of : (e : MachineEnding) → IsTrue (is_run_status (machine_status e))
run_status_of (Ended Done) = refl
run_status_of (Ended (Raised e)) = refl
run_status_of (Ended Cut) = refl
run_status_of (Ended Over) = refl
run_status_of (Ended Broken) = refl
run_status_of (Faulted f) = refl

pub sent_run_status : (program : Program) (stop : Stop) (out : SinkCall) (rest : Rest) (s : Status) → Finishes program stop out (Ok rest) → (s ≡ rest.reply.status) ⊎ (s ≡ status.WriteFault) → IsTrue (is_run_status s)
sent_run_status program stop out rest s f (inl e) =
    let P : Status → Type 0 = λ x. IsTrue (is_run_status x) in subst P (sym (e ∙ f.1.2)) (run_status_of stop.ending)
sent_run_status program stop out rest s f (inr e) = let P : Status → Type 0 = λ x. IsTrue (is_run_status x) in subst P (sym e) refl
