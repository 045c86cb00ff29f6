-- What a call took of the input.
use Rattle.std.proofs.Common.{◌≡◌, refl, sym, ◌∙◌, ap, subst, ℕ, ◌≤◌, ◌+◌, Bool, IsTrue, List, [], ◌++◌, take, length, append-nil, append_assoc, length-append, Result, Ok, Err, IfOk, ◌⊎◌, inl, inr, Some, arith}
use Rattle.value_core.specs.Ending as source
use Rattle.value_core.specs.Items.{Items}
use Rattle.outside_core.specs.Bytes.{TakesFront, GivesAtMost}
use Rattle.mypyc_top_running.specs.Takes.{most_taken, TookEarly, TookBy, TookBefore}
use Rattle.c_core.specs.declared.code.Code.{Code}
use Rattle.c_core.specs.Machine.{MachineState}
use Rattle.c_core.specs.Step.{MachineEnding, Ended, Faulted}
use Rattle.c_core.specs.Run.{Stop, start, most_steps, machine_run}
use Rattle.c_runner.specs.Ran.{lines_used, lines_end, TookLines, TookNear, TookUpTo, TookSome}
use Rattle.c_runner.proofs.StepLemmas.{reached}
use Rattle.mypyc_top_status.specs.declared.status.Status.{Status}
use Rattle.mypyc_top_status.specs.declared.status.Status.TheVariants as status
use Rattle.mypyc_top_status.specs.Output.{output_text}
use Rattle.mypyc_top_status.specs.Endings.{machine_status}
use Rattle.mypyc_top_status.specs.ErrorLines.{input_line}
use Rattle.mypyc_top_status.specs.Causes.{Yields}
use Rattle.mypyc_top_status.specs.Gave.{Gave}
use Rattle.mypyc_top_status.specs.Sinks.{SinkCall, sink_call, Took}
use Rattle.mypyc_top_running.specs.declared.running.Program.{Program}
use Rattle.mypyc_top_running.specs.declared.running.Rest.{Rest}
use Rattle.mypyc_top_running.specs.declared.running.Unfinished.{Unfinished}

-- a sink took more after a call
abbrev Grows : Bool → List ℕ → List ℕ → Type 0
Grows tells old new = IsTrue tells → (more : List ℕ) × (new ≡ old ++ more)

grows_front : (tells : Bool) (old new text : List ℕ) → (IsTrue tells → TakesFront old new text) → Grows tells old new
grows_front tells old new text front t = let f = front t in (take f.count text, f.grown)

grows_all : (tells : Bool) (old new text : List ℕ) → (IsTrue tells → new ≡ old ++ text) → Grows tells old new
grows_all tells old new text all t = (text, all t)

-- what was sent is more
pub gave_grows : (tells : Bool) (old new : List ℕ) (err : SinkCall) (text line : List ℕ) (r s : Status) → Gave (sink_call tells old new) err text line r s → Grows tells old new
gave_grows tells old new err text line r status.WriteFault g = grows_front tells old new text g.0
gave_grows tells old new err text line r status.Memory g = grows_front tells old new text g.0
gave_grows tells old new err text line r status.Done g = grows_all tells old new text g.1
gave_grows tells old new err text line r status.Diagnosed g = grows_all tells old new text g.1
gave_grows tells old new err text line r status.Usage g = grows_all tells old new text g.1
gave_grows tells old new err text line r status.OpenFault g = grows_all tells old new text g.1
gave_grows tells old new err text line r status.ReadFault g = grows_all tells old new text g.1
gave_grows tells old new err text line r status.TooLarge g = grows_all tells old new text g.1
gave_grows tells old new err text line r status.Raised g = grows_all tells old new text g.1
gave_grows tells old new err text line r status.Cut g = grows_all tells old new text g.1
gave_grows tells old new err text line r status.TextRefused g = grows_all tells old new text g.1
gave_grows tells old new err text line r status.Faulted g = grows_all tells old new text g.1
gave_grows tells old new err text line r status.InputOver g = grows_all tells old new text g.1
gave_grows tells old new err text line r status.InputFault g = grows_all tells old new text g.1

abbrev stop_at : MachineEnding → MachineState → Stop
stop_at e s = record { ending = e; state = s }

-- only a run that could not read its input has that status
broken_is : (e : MachineEnding) → status.InputFault ≡ machine_status e → e ≡ Ended source.Broken
broken_is (Ended source.Done) is = absurd (cc)
broken_is (Ended (source.Raised x)) is = absurd (cc)
broken_is (Ended source.Cut) is = absurd (cc)
broken_is (Ended source.Over) is = absurd (cc)
broken_is (Ended source.Broken) is = refl
broken_is (Faulted f) is = absurd (cc)

module _ (code : Code) (turns : ℕ) (items : Items) (stop : Stop) (left left' : List ℕ) where
  abbrev Early : SinkCall → Type 0
  Early out = TookEarly code turns out items stop left left'

  abbrev By : Status → SinkCall → Type 0
  By s out = TookBy s code turns out items stop left left'

  -- what is said of lines says how much was taken
  lines_at_most : TookLines items stop left left' → GivesAtMost most_taken left left'
  lines_at_most t = record {
    given = t.used ++ t.ahead;
    within = subst (λ n. n ≤ most_taken) (sym (length-append t.used t.ahead)) t.within;
    split = t.given ∙ sym (append_assoc t.used t.ahead left');
  }

  early_at_most : (out : SinkCall) → Early out → GivesAtMost most_taken left left'
  early_at_most out (inl broken) = broken.1
  early_at_most out (inr some) = some.within

  pub at_most : (s : Status) (out : SinkCall) → By s out → GivesAtMost most_taken left left'
  at_most status.WriteFault out t = early_at_most out t
  at_most status.Memory out t = early_at_most out t
  at_most status.InputFault out t = t
  at_most status.Done out t = lines_at_most t
  at_most status.Diagnosed out t = lines_at_most t
  at_most status.Usage out t = lines_at_most t
  at_most status.OpenFault out t = lines_at_most t
  at_most status.ReadFault out t = lines_at_most t
  at_most status.TooLarge out t = lines_at_most t
  at_most status.Raised out t = lines_at_most t
  at_most status.Cut out t = lines_at_most t
  at_most status.TextRefused out t = lines_at_most t
  at_most status.Faulted out t = lines_at_most t
  at_most status.InputOver out t = lines_at_most t

  -- a run whose whole output was taken comes to the state in which it stops
  lines_some : (out : SinkCall) → machine_run turns items code ≡ Some stop → Took out stop.state.output → TookLines items stop left left' → TookSome code turns items stop out.tells out.before out.after left left'
  lines_some out run all t =
      let steps = reached code (most_steps turns code) (start code turns items) stop run in
      record {
        state = stop.state;
        steps = steps.0;
        comes = steps.1;
        sent = λ told. ([], all told ∙ ap (λ c. out.before ++ c) (sym (append-nil stop.state.output)));
        within = lines_at_most t;
        usual = usual_on t.usual;
      }
    where
      usual_on : (stop.ending ≡ Ended source.Over) ⊎ TookNear items t.used t.ahead stop → (stop ≡ record { ending = Ended source.Over; state = stop.state }) ⊎ TookUpTo (lines_used items stop.state.items) left left'
      usual_on (inl over) = inl (ap (λ e. stop_at e stop.state) over)
      usual_on (inr near) =
          let size : length t.used ≡ lines_end (lines_used items stop.state.items) left = ap length t.whole in
          let ahead = near.near in
          inr (record {
            taken = t.used ++ t.ahead;
            given = t.given ∙ sym (append_assoc t.used t.ahead left');
            near = omega (arith, size, ahead, length-append t.used t.ahead);
            none = near.none;
          })

  -- the sink took more
  early_later : (tells : Bool) (old mid new : List ℕ) → Grows tells mid new → Early (sink_call tells old mid) → Early (sink_call tells old new)
  early_later tells old mid new grows (inl broken) = inl broken
  early_later tells old mid new grows (inr some) = inr (record {
    state = some.state;
    steps = some.steps;
    comes = some.comes;
    sent = λ t.
        let first = some.sent t in
        let then = grows t in (
          first.0 ++ then.0,
          then.1 ∙ ap (λ c. c ++ then.0) first.1 ∙ append_assoc old (some.state.output ++ first.0) then.0 ∙ ap (λ c. old ++ c) (append_assoc some.state.output first.0 then.0),
        );
    within = some.within;
    usual = some.usual;
  })

  by_later : (s : Status) (tells : Bool) (old mid new : List ℕ) → Grows tells mid new → By s (sink_call tells old mid) → By s (sink_call tells old new)
  by_later status.WriteFault tells old mid new grows t = early_later tells old mid new grows t
  by_later status.Memory tells old mid new grows t = early_later tells old mid new grows t
  by_later status.Done tells old mid new grows t = t
  by_later status.Diagnosed tells old mid new grows t = t
  by_later status.Usage tells old mid new grows t = t
  by_later status.OpenFault tells old mid new grows t = t
  by_later status.ReadFault tells old mid new grows t = t
  by_later status.TooLarge tells old mid new grows t = t
  by_later status.Raised tells old mid new grows t = t
  by_later status.Cut tells old mid new grows t = t
  by_later status.TextRefused tells old mid new grows t = t
  by_later status.Faulted tells old mid new grows t = t
  by_later status.InputOver tells old mid new grows t = t
  by_later status.InputFault tells old mid new grows t = t

  by_lines : (s : Status) (out : SinkCall) → machine_run turns items code ≡ Some stop → Took out stop.state.output → TookLines items stop left left' → By s out
  by_lines status.WriteFault out run all t = inr (lines_some out run all t)
  by_lines status.Memory out run all t = inr (lines_some out run all t)
  by_lines status.InputFault out run all t = lines_at_most t
  by_lines status.Done out run all t = t
  by_lines status.Diagnosed out run all t = t
  by_lines status.Usage out run all t = t
  by_lines status.OpenFault out run all t = t
  by_lines status.ReadFault out run all t = t
  by_lines status.TooLarge out run all t = t
  by_lines status.Raised out run all t = t
  by_lines status.Cut out run all t = t
  by_lines status.TextRefused out run all t = t
  by_lines status.Faulted out run all t = t
  by_lines status.InputOver out run all t = t

  -- where a sink refuses what is left to send
  by_early : (s : Status) (out : SinkCall) → machine_run turns items code ≡ Some stop → Took out stop.state.output → s ≡ machine_status stop.ending → By s out → Early out
  by_early status.WriteFault out run all is t = t
  by_early status.Memory out run all is t = t
  by_early status.InputFault out run all is t = inl (broken_is stop.ending is, t)
  by_early status.Done out run all is t = inr (lines_some out run all t)
  by_early status.Diagnosed out run all is t = inr (lines_some out run all t)
  by_early status.Usage out run all is t = inr (lines_some out run all t)
  by_early status.OpenFault out run all is t = inr (lines_some out run all t)
  by_early status.ReadFault out run all is t = inr (lines_some out run all t)
  by_early status.TooLarge out run all is t = inr (lines_some out run all t)
  by_early status.Raised out run all is t = inr (lines_some out run all t)
  by_early status.Cut out run all is t = inr (lines_some out run all t)
  by_early status.TextRefused out run all is t = inr (lines_some out run all t)
  by_early status.Faulted out run all is t = inr (lines_some out run all t)
  by_early status.InputOver out run all is t = inr (lines_some out run all t)

  -- what was left to send was sent, or refused
  pub took_sent : (r s : Status) (tells : Bool) (old mid new : List ℕ) → Grows tells mid new → machine_run turns items code ≡ Some stop → Took (sink_call tells old mid) stop.state.output → r ≡ machine_status stop.ending → (s ≡ r) ⊎ (s ≡ status.WriteFault) → By r (sink_call tells old mid) → By s (sink_call tells old new)
  took_sent r s tells old mid new grows run all is (inl e) t =
      let T : Status → Type 0 = λ x. By x (sink_call tells old new) in subst T (sym e) (by_later r tells old mid new grows t)
  took_sent r s tells old mid new grows run all is (inr e) t =
      let T : Status → Type 0 = λ x. By x (sink_call tells old new) in
      subst T (sym e) (early_later tells old mid new grows (by_early r (sink_call tells old mid) run all is t))

  -- memory ran out
  pub took_refused : (s : Status) (out : SinkCall) → s ≡ status.Memory → Early out → By s out
  took_refused s out e t = let T : Status → Type 0 = λ x. By x out in subst T (sym e) t

module _ (program : Program) (items : Items) (stop : Stop) (left left' : List ℕ) where
  -- a run that ended
  pub took_ended : (r : Result Rest Unfinished) (out : SinkCall) → machine_run program.turns items program.code ≡ Some stop → Took out stop.state.output → TookLines items stop left left' → TookBefore r program out items stop left left'
  took_ended (Ok rest) out run all t = by_lines program.code program.turns items stop left left' rest.reply.status out run all t
  took_ended (Err e) out run all t = inr (lines_some program.code program.turns items stop left left' out run all t)

  -- a run that could not read its input
  pub took_broken : (r : Result Rest Unfinished) (out : SinkCall) → stop.ending ≡ Ended source.Broken → IfOk r (λ rest. (output_text rest.reply.out ≡ []) × (rest.reply.err.items ≡ input_line) × (rest.reply.status ≡ status.InputFault)) → GivesAtMost most_taken left left' → TookBefore r program out items stop left left'
  took_broken (Ok rest) out broken is t =
      let T : Status → Type 0 = λ s. TookBy s program.code program.turns out items stop left left' in subst T (sym is.2) t
  took_broken (Err e) out broken is t = inl (broken, t)

pub ending_sent : (r s t : Status) → r ≡ t → (s ≡ r) ⊎ (s ≡ status.WriteFault) → (s ≡ t) ⊎ Yields s
ending_sent r s t is (inl e) = inl (e ∙ is)
ending_sent r s t is (inr e) = inr (inl e)
