-- What a call took of the input.
use Rattle.std.proofs.Common.{◌≡◌, refl, sym, subst, ℕ, Bool, true, false, not, ◌||◌, IsTrue, List, [], Some, ◌⊎◌, inl, inr, arith}
use Rattle.value_core.specs.Items.{Items}
use Rattle.outside_core.specs.Bytes.{GivesAtMost}
use Rattle.mypyc_top_running.specs.Takes.{most_taken, RunTook}
use Rattle.c_core.specs.declared.code.Code.{Code}
use Rattle.c_core.specs.WellFormed.{WellFormed}
use Rattle.c_core.specs.Run.{Stop, machine_run}
use Rattle.mypyc_top_words.specs.declared.words.Words.{Words}
use Rattle.mypyc_top_status.specs.declared.status.Status.{Status}
use Rattle.mypyc_top_status.specs.declared.status.Status.TheVariants as status
use Rattle.mypyc_top_status.specs.declared.reply.Reply.{Reply}
use Rattle.mypyc_top_status.specs.Endings.{machine_status}
use Rattle.mypyc_top_status.specs.Causes.{Yields}
use Rattle.mypyc_top_status.specs.Sinks.{SinkCall}
use Rattle.mypyc_top_status.specs.Replies.{is_run_status}
use Rattle.mypyc_top_running.specs.declared.running.Program.{Program}
use Rattle.mypyc_top_running.proofs.TookLemmas.{at_most}
use Rattle.mypyc_top_running.specs.Programs.{program_text, program_line}
use Rattle.mypyc_top.specs.declared.plan.Plan.TheVariants as plans
use Rattle.mypyc_top.specs.Reads.{runs_program, is_unrun, leaves_input, RunRead, ReadBy, PlanRuns}

-- nothing was taken
pub none_taken : (left : List ℕ) → GivesAtMost most_taken left left
none_taken left = record { given = []; within = omega arith; split = refl }

-- how much a run took at most
pub run_at_most : (program : Program) (items : Items) (out : SinkCall) (left left' : List ℕ) (s : Status) → RunTook program items out left left' s → GivesAtMost most_taken left left'
run_at_most program items out left left' s t = at_most program.code program.turns items t.stop left left' s out t.took

-- the run behind an answer
pub run_read : (program : Program) (items : Items) (turns : ℕ) (out : SinkCall) (left left' : List ℕ) (IsCode : Code → Type 0) (IsAnswer : List ℕ → List ℕ → Status → Type 0) (s : Status) → program.turns ≡ turns → WellFormed program.code → ((stop : Stop) → machine_run program.turns items program.code ≡ Some stop → IsAnswer (program_text program stop) (program_line program stop) (machine_status stop.ending)) → IsCode program.code → RunTook program items out left left' s → RunRead items turns out left left' IsCode IsAnswer s
run_read program items turns out left left' IsCode IsAnswer s is formed answers is_code t =
    let P : ℕ → Type 0 = λ n. RunRead items n out left left' IsCode IsAnswer s in
    subst P is (record {
      code = program.code;
      formed = formed;
      is_code = is_code;
      has_summary = program.has_summary;
      stop = t.stop;
      run = t.run;
      ending = t.ending;
      answer = answers t.stop t.run;
      took = t.took;
    })

-- where a program was run
pub was_read : (s : Status) (Alone Read : Type 0) → Read → ReadBy s Alone Read
was_read status.WriteFault Alone Read r = inr r
was_read status.Memory Alone Read r = inr r
was_read status.Done Alone Read r = r
was_read status.Diagnosed Alone Read r = r
was_read status.Usage Alone Read r = r
was_read status.OpenFault Alone Read r = r
was_read status.ReadFault Alone Read r = r
was_read status.TooLarge Alone Read r = r
was_read status.Raised Alone Read r = r
was_read status.Cut Alone Read r = r
was_read status.TextRefused Alone Read r = r
was_read status.Faulted Alone Read r = r
was_read status.InputOver Alone Read r = r
was_read status.InputFault Alone Read r = r

-- where none was
pub not_read : (s : Status) (Alone Read : Type 0) → Yields s → Alone → ReadBy s Alone Read
not_read s Alone Read (inl e) a = let P : Status → Type 0 = λ x. ReadBy x Alone Read in subst P (sym e) (inl a)
not_read s Alone Read (inr e) a = let P : Status → Type 0 = λ x. ReadBy x Alone Read in subst P (sym e) (inl a)

-- no status is of both: of a call that ran no program, and of one that did
unrun_is_not_run : (A : Type 0) (s : Status) → IsTrue (is_unrun s) → IsTrue (is_run_status s) → A
unrun_is_not_run A status.Done u e = absurd (cc)
unrun_is_not_run A status.Diagnosed u e = absurd (cc)
unrun_is_not_run A status.Usage u e = absurd (cc)
unrun_is_not_run A status.OpenFault u e = absurd (cc)
unrun_is_not_run A status.ReadFault u e = absurd (cc)
unrun_is_not_run A status.WriteFault u e = absurd (cc)
unrun_is_not_run A status.TooLarge u e = absurd (cc)
unrun_is_not_run A status.Raised u e = absurd (cc)
unrun_is_not_run A status.Cut u e = absurd (cc)
unrun_is_not_run A status.TextRefused u e = absurd (cc)
unrun_is_not_run A status.Faulted u e = absurd (cc)
unrun_is_not_run A status.InputOver u e = absurd (cc)
unrun_is_not_run A status.Memory u e = absurd (cc)
unrun_is_not_run A status.InputFault u e = absurd (cc)

ran_by : (A : Type 0) (b : Bool) (program : Program) (s : Status) → PlanRuns b (plans.Run program) → IsTrue (not b || is_unrun s) → IsTrue (is_run_status s) → A
ran_by A true program s p l e = unrun_is_not_run A s l e
ran_by A false program s p l e = absurd p

-- where a program was run the input need not be left as it was
pub ran_alone : (A : Type 0) (w : Words) (program : Program) (s : Status) → PlanRuns (runs_program w) (plans.Run program) → IsTrue (is_run_status s) → IsTrue (leaves_input w s) → A
ran_alone A w program s p e l = ran_by A (runs_program w) program s p l e

-- a reply in a mode that runs has no status of a run
pub sent_read : (b : Bool) (reply : Reply) (s : Status) (Alone Read : Type 0) → PlanRuns b (plans.Send reply) → IsTrue b → (s ≡ reply.status) ⊎ (s ≡ status.WriteFault) → IsTrue (is_run_status s) → Alone → ReadBy s Alone Read
sent_read false reply s Alone Read p t sent e a = absurd (cc)
sent_read true reply s Alone Read p t (inl is) e a =
    let P : Status → Type 0 = λ x. IsTrue (is_unrun x) in unrun_is_not_run (ReadBy s Alone Read) s (subst P (sym is) p) e
sent_read true reply s Alone Read p t (inr is) e a = not_read s Alone Read (inl is) a
