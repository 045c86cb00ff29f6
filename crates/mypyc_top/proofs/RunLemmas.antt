-- The runs of a code that is faithful to a module.
use Rattle.std.proofs.Common.{◌≡◌, refl, sym, ◌∙◌, ap, subst, ℕ, ◌≤◌, [], ◌++◌, append-nil, length, Some}
use Rattle.value_core.specs.Ending.{Ending, Done, Raised, Cut, Over, Broken}
use Rattle.value_core.specs.Items.{Items}
use Rattle.py_typed.specs.Statements.{TypedModule}
use Rattle.c_core.specs.declared.code.Code.{Code}
use Rattle.c_core.specs.Agreement.{Agrees}
use Rattle.c_core.specs.Step.{MachineEnding, Ended, Faulted}
use Rattle.c_core.specs.Run.{Stop, most_turns, machine_run}
use Rattle.c_runner.specs.Ran.{AreLines}
use Rattle.mypyc_top_words.specs.declared.words.Emit.TheVariants as modes
use Rattle.mypyc_top_status.specs.Endings.{ending_status, machine_status, machine_line}
use Rattle.mypyc_top_running.specs.Summary.{cells_left}
use Rattle.mypyc_top_compiler.specs.Faithful.{RunsAs, Faithful}
use Rattle.mypyc_top.specs.Running.{ModuleRun}
use Rattle.mypyc_top.specs.Modes.{CanAnswer}

same_stop : (a b : Stop) → Some a ≡ Some b → a ≡ b
same_stop a b e = cc

-- each run agrees with the source's
runs_as : (m : TypedModule) (code : Code) (n : ℕ) (items : Items) → Faithful m code → n ≤ most_turns → AreLines items → RunsAs m code n items
runs_as m code n items f most lines = subst (λ i. RunsAs m code n i) (sym lines.1.1) (f.runs n most lines.0 lines.1.0)

agrees : (m : TypedModule) (code : Code) (n : ℕ) (items : Items) (stop : Stop) (r : RunsAs m code n items) → machine_run n items code ≡ Some stop → Agrees r.source stop
agrees m code n items stop r e = subst (λ x. Agrees r.source x) (same_stop r.stop stop (sym r.runs ∙ e)) r.agrees

-- so it is a run of the module
pub module_run : (m : TypedModule) (code : Code) (n : ℕ) (items : Items) (stop : Stop) → Faithful m code → n ≤ most_turns → AreLines items → machine_run n items code ≡ Some stop → ModuleRun m n items (stop.state.output ++ []) (machine_line stop.ending (length (cells_left code stop))) (machine_status stop.ending)
module_run m code n items stop f most lines e =
    let r = runs_as m code n items f most lines in
    let a = agrees m code n items stop r e in (
      r.source,
      r.is_source,
      append-nil stop.state.output ∙ a.same_output,
      (code, f, (stop, e, ap (λ x. machine_line x (length (cells_left code stop))) a.same_ending)),
      ap machine_status a.same_ending,
    )

-- and does not end in a fault
no_fault : (e : Ending) → CanAnswer modes.Run (ending_status e)
no_fault Done = refl
no_fault (Raised e) = refl
no_fault Cut = refl
no_fault Over = refl
no_fault Broken = refl

pub run_can_come : (m : TypedModule) (code : Code) (n : ℕ) (items : Items) (stop : Stop) → Faithful m code → n ≤ most_turns → AreLines items → machine_run n items code ≡ Some stop → CanAnswer modes.Run (machine_status stop.ending)
run_can_come m code n items stop f most lines e =
    let r = runs_as m code n items f most lines in
    let a = agrees m code n items stop r e in
    let P : MachineEnding → Type 0 = λ x. CanAnswer modes.Run (machine_status x) in
    subst P (sym a.same_ending) (no_fault r.source.ending)

-- every ending of a code can come of C text
ended_can_come : (e : Ending) → CanAnswer modes.Runc (ending_status e)
ended_can_come Done = refl
ended_can_come (Raised e) = refl
ended_can_come Cut = refl
ended_can_come Over = refl
ended_can_come Broken = refl
