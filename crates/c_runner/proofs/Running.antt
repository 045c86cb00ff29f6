-- A run that goes on, and what is answered where it ends.
use Rattle.std.proofs.Common.{◌≡◌, refl, sym, ◌∙◌, ap, subst, ℕ, ◌+◌, ◌-◌, ◌^◌, ◌<◌, ◌≤◌, arith, Bool, false, List, [], ◌∷◌, ◌++◌, append_assoc, append-nil, Option, Some, None}
use Rattle.std.specs.Prelude.{◌||◌, IsTrue}
use Rattle.value_core.specs.Items.{Items}
use Rattle.outside_core.specs.Bytes.{TakesFront}
use Rattle.outside_core.proofs.Fronts.{TakesFront-before, TakesFront-after}
use Rattle.c_core.specs.declared.code.Code.{Code}
use Rattle.c_core.specs.Cells.{count_at}
use Rattle.c_core.specs.Machine.{MachineState}
use Rattle.c_core.specs.Step.{MachineEnding, Goes, Ends, step}
use Rattle.c_core.specs.Run.{Stop, go_on, start, most_steps, machine_run}
use Rattle.c_core.specs.Laws.{Reaches, Here, RunExists, RunKeepsCounts, RunStaysSmall}
use Rattle.c_core.specs.WellFormed.{WellFormed}
use Rattle.c_runner_deeds.specs.declared.ending.Ending.{Ending}
use Rattle.c_runner.specs.declared.report.Report.{Report}
use Rattle.c_runner_deeds.specs.Handing.{HandsOn, has_bytes}
use Rattle.c_runner_deeds.specs.States.{ending_of, Rest, IsSmall, first_rest, state_of, next_of, Seen}
use Rattle.c_runner.specs.Report.{live_cells, Reports}
use Rattle.c_runner.proofs.StepLemmas.{Keeps, KeepsTo, step_keeps, some_left, one_taken, one_further, grows, reaches_on, goes_on}

-- ---- no bytes
pub no_front : (xs ys : List ℕ) → xs ++ ys ≡ [] → xs ≡ []
no_front [] ys e = refl
no_front (x ∷ xs) ys e = absurd (cc)

pub no_rest : (xs ys : List ℕ) → xs ++ ys ≡ [] → ys ≡ []
no_rest [] ys e = e
no_rest (x ∷ xs) ys e = absurd (cc)

-- output that got longer: there are bytes now where there were some, and where some are held
longer_held : (old new more : List ℕ) → new ≡ old ++ more → (has_bytes old || has_bytes new) ≡ has_bytes new
longer_held [] new more e = refl
longer_held (b ∷ old) new more e = ap has_bytes (sym e)

any_longer : (handed old new more : List ℕ) → handed ++ new ≡ (handed ++ old) ++ more → (has_bytes (handed ++ old) || has_bytes new) ≡ has_bytes (handed ++ new)
any_longer [] old new more e = longer_held old new more e
any_longer (h ∷ handed) old new more e = refl

-- the lines that are left of a run, the output that was handed on, and the objects that were made
abbrev pub rest_after : Items → List ℕ → List ℕ → Rest
rest_after lines handed made = record { items = lines; handed = handed; made = made }

-- a run of at most so many more steps goes on from a state, where these lines are left, the sink took what was handed on, and whether
-- there was any output is known
pub record Running (tells : Bool) (before now : List ℕ) (code : Code) (turns : ℕ) (items : Items) (left : ℕ) (any : Bool) (Untouched : Type 0) (state : Seen) (lines : Items) : Type 0 where
  pub handed : List ℕ
  pub made : List ℕ
  pub taken : IsTrue tells → now ≡ before ++ handed
  pub alone : handed ≡ [] → Untouched
  pub any_is : any ≡ has_bytes (handed ++ state.output)
  pub steps : ℕ
  pub all_steps : steps + left ≡ most_steps turns code
  pub reaches : Reaches code steps (start code turns items) (state_of (rest_after lines handed made) state)
  pub goes : go_on (step code) left (Goes (state_of (rest_after lines handed made) state)) ≡ machine_run turns items code

pub at_start : (tells : Bool) (before : List ℕ) (code : Code) (turns left : ℕ) (items : Items) (Untouched : Type 0) (state : Seen) → Untouched → ((i : Items) → state_of (first_rest i) state ≡ start code turns i) → left ≡ most_steps turns code → Running tells before before code turns items left false Untouched state items
at_start tells before code turns left items Untouched state same is count = record {
  handed = [];
  made = [];
  taken = λ t. sym (append-nil before);
  alone = λ none. same;
  any_is = ap (λ s. has_bytes s.output) (sym (is items));
  steps = 0;
  all_steps = omega (arith, count);
  reaches = subst (λ s. Reaches code 0 (start code turns items) s) (sym (is items)) (Here (start code turns items));
  goes = ap (λ k. go_on (step code) k (Goes (state_of (first_rest items) state))) count ∙ ap (λ s. go_on (step code) (most_steps turns code) (Goes s)) (is items);
}

-- a run stopped so in a state, where these lines are left, and the sink took what was handed on
pub record Stopped (tells : Bool) (before now : List ℕ) (any : Bool) (Untouched : Type 0) (state : Seen) (lines : Items) (ending : MachineEnding) (stop : Stop) : Type 0 where
  pub handed : List ℕ
  pub made : List ℕ
  pub taken : IsTrue tells → now ≡ before ++ handed
  pub alone : handed ≡ [] → Untouched
  pub any_is : any ≡ has_bytes (handed ++ state.output)
  pub is : stop ≡ record { ending = ending; state = state_of (rest_after lines handed made) state }

module _ (tells : Bool) (before now : List ℕ) (code : Code) (turns : ℕ) (items : Items) (left : ℕ) (any : Bool) (Untouched : Type 0) (state : Seen) (lines : Items) (running : Running tells before now code turns items left any Untouched state lines) where
  abbrev rest : Rest
  rest = rest_after lines running.handed running.made

  pub can_step : RunExists → WellFormed code → 1 ≤ left
  can_step exists formed =
      let run = exists code formed turns items in
      some_left code left (state_of rest state) run.0 (running.goes ∙ run.1)

  -- some steps that wrote nothing
  pub strides : (n : ℕ) (new : Seen) → ((r : Rest) → Reaches code n (state_of r state) (state_of r new)) → new.output ≡ state.output → n ≤ left → Running tells before now code turns items (left - n) any Untouched new lines
  strides n new steps same le = record {
    handed = running.handed;
    made = running.made;
    taken = running.taken;
    alone = running.alone;
    any_is = running.any_is ∙ ap (λ o. has_bytes (running.handed ++ o)) (sym same);
    steps = running.steps + n;
    all_steps = omega (arith, running.all_steps, le);
    reaches = reaches_on code running.steps n (start code turns items) (state_of rest state) (state_of rest new) running.reaches (steps rest);
    goes = sym (goes_on code n left (state_of rest state) (state_of rest new) (steps rest) le) ∙ running.goes;
  }

  -- a front of what is held went too
  pub front_of_held : (after : List ℕ) → (IsTrue tells → TakesFront now after state.output) → (stop : Stop) → machine_run turns items code ≡ Some stop → IsTrue tells → TakesFront before after stop.state.output
  front_of_held after front stop is t =
      let grown = grows code left (state_of rest state) stop (running.goes ∙ is) in
      rw grown.grown (TakesFront-before before after (running.handed ++ state.output) grown.more (TakesFront-after before now after running.handed state.output (running.taken t) (front t)))

  -- a run that wrote nothing handed nothing on, and holds nothing
  pub nothing_so_far : (stop : Stop) → machine_run turns items code ≡ Some stop → stop.state.output ≡ [] → Untouched
  nothing_so_far stop is none =
      let grown = grows code left (state_of rest state) stop (running.goes ∙ is) in
      running.alone (no_front running.handed (state.output ++ grown.more) (sym (append_assoc running.handed state.output grown.more) ∙ sym grown.grown ∙ none))

  pub nothing_held : (stop : Stop) → machine_run turns items code ≡ Some stop → stop.state.output ≡ [] → state.output ≡ []
  nothing_held stop is none =
      let grown = grows code left (state_of rest state) stop (running.goes ∙ is) in
      no_front state.output grown.more (no_rest running.handed (state.output ++ grown.more) (sym (append_assoc running.handed state.output grown.more) ∙ sym grown.grown ∙ none))

  -- neither the number of cells nor a count is greater than the number of steps so far
  pub small : RunKeepsCounts → RunStaysSmall → WellFormed code → most_steps turns code < 2 ^ 128 → 1 ≤ left → IsSmall state
  small counts stays formed room more =
      let stayed = stays code formed turns items running.steps (state_of rest state) running.reaches in
      let few : (c : ℕ) → count_at state.cells c ≤ running.steps = stayed.2 in
      record {
        made = omega (arith, stayed.1, running.all_steps, room, more);
        counts = λ c. omega (arith, few c, running.all_steps, room, more);
        ledgers = λ c.
            let counted = (counts code turns items).0 running.steps (state_of rest state) running.reaches c in
            omega (arith, counted, few c, running.all_steps, room, more);
      }

  -- some of what is held is handed on
  pub handed_on : (after output : List ℕ) (Still StillUntouched : Type 0) → (Untouched → Still → StillUntouched) → HandsOn tells now after state.output output Still → Running tells before after code turns items left any StillUntouched (record state { output = output }) lines
  handed_on after output Still StillUntouched both hands = record {
    handed = running.handed ++ hands.0;
    made = running.made;
    alone = λ none. both (running.alone (no_front running.handed hands.0 none)) (hands.3 (no_rest running.handed hands.0 none));
    any_is = running.any_is ∙ ap has_bytes (ap (λ l. running.handed ++ l) hands.1 ∙ sym (append_assoc running.handed hands.0 output));
    taken = λ t. hands.2 t ∙ ap (λ l. l ++ hands.0) (running.taken t) ∙ append_assoc before running.handed hands.0;
    steps = running.steps;
    all_steps = running.all_steps;
    reaches = subst (λ l. Reaches code running.steps (start code turns items) (record (state_of rest state) { output = l })) (sym (append_assoc running.handed hands.0 output ∙ ap (λ l. running.handed ++ l) (sym hands.1))) running.reaches;
    goes = ap (λ l. go_on (step code) left (Goes (record (state_of rest state) { output = l }))) (append_assoc running.handed hands.0 output ∙ ap (λ l. running.handed ++ l) (sym hands.1)) ∙ running.goes;
  }

  -- the last step
  pub last_step : (ending : MachineEnding) (last : MachineState) → 1 ≤ left → step code (state_of rest state) ≡ Ends ending last → (stop : Stop) → machine_run turns items code ≡ Some stop → stop ≡ record { ending = ending; state = last }
  last_step ending last more e stop run =
      let end : go_on (step code) left (Goes (state_of rest state)) ≡ Some (record { ending = ending; state = last }) = one_taken code left (state_of rest state) more ∙ ap (go_on (step code) (left - 1)) e in
      let both : Some stop ≡ Some (record { ending = ending; state = last }) = sym run ∙ sym running.goes ∙ end in
      cc

  -- a step, before which some of what was held was handed on, and behind which these objects were made
  module _ (after : List ℕ) (Still StillUntouched : Type 0) (both : Untouched → Still → StillUntouched) (kept : List ℕ) (hands : HandsOn tells now after state.output kept Still) (new : Seen) (next : Items) (grown : List ℕ) where
    abbrev all_handed : List ℕ
    all_handed = running.handed ++ hands.0

    abbrev later : MachineState
    later = state_of (rest_after next all_handed grown) new

    split : running.handed ++ state.output ≡ all_handed ++ kept
    split = ap (λ l. running.handed ++ l) hands.1 ∙ sym (append_assoc running.handed hands.0 kept)

    -- whether there was any output
    any_after : (ending : Option Ending) → step code (state_of rest state) ≡ next_of ending later → (any || has_bytes new.output) ≡ has_bytes (all_handed ++ new.output)
    any_after None e =
        let keeps : Keeps (state_of rest state) later = subst (KeepsTo (state_of rest state)) e (step_keeps (state_of rest state) code) in
        ap (λ b. b || has_bytes new.output) (running.any_is ∙ ap has_bytes split) ∙ any_longer all_handed kept new.output keeps.more (keeps.grown ∙ ap (λ l. l ++ keeps.more) split)
    any_after (Some ending) e =
        let keeps : later ≡ state_of rest state = subst (KeepsTo (state_of rest state)) e (step_keeps (state_of rest state) code) in
        ap (λ b. b || has_bytes new.output) (running.any_is ∙ ap has_bytes split) ∙ any_longer all_handed kept new.output [] (ap (λ s. s.output) keeps ∙ split ∙ sym (append-nil (all_handed ++ kept)))

    alone_still : all_handed ≡ [] → StillUntouched
    alone_still none = both (running.alone (no_front running.handed hands.0 none)) (hands.3 (no_rest running.handed hands.0 none))

    taken_too : IsTrue tells → after ≡ before ++ all_handed
    taken_too t = hands.2 t ∙ ap (λ l. l ++ hands.0) (running.taken t) ∙ append_assoc before running.handed hands.0

    pub stepped : (any' : Bool) → any' ≡ (any || has_bytes new.output) → 1 ≤ left → step code (state_of rest state) ≡ Goes later → Running tells before after code turns items (left - 1) any' StillUntouched new next
    stepped any' is more e = record {
      handed = all_handed;
      made = grown;
      taken = taken_too;
      alone = alone_still;
      any_is = is ∙ any_after None e;
      steps = running.steps + 1;
      all_steps = omega (arith, running.all_steps, more);
      reaches = one_further code running.steps (start code turns items) (state_of rest state) later running.reaches e;
      goes = ap (go_on (step code) (left - 1)) (sym e) ∙ sym (one_taken code left (state_of rest state) more) ∙ running.goes;
    }

    pub stopped : (any' : Bool) → any' ≡ (any || has_bytes new.output) → 1 ≤ left → (ending : Ending) → step code (state_of rest state) ≡ Ends (ending_of ending) later → (stop : Stop) → machine_run turns items code ≡ Some stop → Stopped tells before after any' StillUntouched new next (ending_of ending) stop
    stopped any' is more ending e stop run = record {
      handed = all_handed;
      made = grown;
      taken = taken_too;
      alone = alone_still;
      any_is = is ∙ any_after (Some ending) e;
      is = last_step (ending_of ending) later more e stop run;
    }

-- ---- where a run stopped
module _ (tells : Bool) (before now : List ℕ) (any : Bool) (Untouched : Type 0) (state : Seen) (lines : Items) (ending : MachineEnding) (stop : Stop) (stopped : Stopped tells before now any Untouched state lines ending stop) where
  -- of the whole output a front was taken, or all
  pub front_at_end : (after : List ℕ) → (IsTrue tells → TakesFront now after state.output) → IsTrue tells → TakesFront before after stop.state.output
  front_at_end after front t =
      rw (ap (λ s. s.state.output) stopped.is) (TakesFront-after before now after stopped.handed state.output (stopped.taken t) (front t))

  pub all_at_end : (after : List ℕ) → (IsTrue tells → after ≡ now ++ state.output) → IsTrue tells → after ≡ before ++ stop.state.output
  all_at_end after all t =
      all t ∙ ap (λ l. l ++ state.output) (stopped.taken t) ∙ append_assoc before stopped.handed state.output
      ∙ ap (λ s. before ++ s.state.output) (sym stopped.is)

  -- where a run that stopped wrote nothing, nothing was handed on, and nothing is held
  pub nothing_at_end : stop.state.output ≡ [] → Untouched × (state.output ≡ [])
  nothing_at_end none =
      let all : stopped.handed ++ state.output ≡ [] = sym (ap (λ s. s.state.output) stopped.is) ∙ none in
      (stopped.alone (no_front stopped.handed state.output all), no_rest stopped.handed state.output all)

  pub reported : (code : Code) (report : Report) → ending_of report.ending ≡ ending → report.live ≡ live_cells code.classes state.cells → report.turns_left ≡ state.turns → report.has_output ≡ any → Reports code report stop
  reported code report same_ending same_live same_turns same_output =
      let end = stopped.is in
      record {
        same_ending = same_ending ∙ ap (λ s. s.ending) (sym end);
        same_cells = same_live ∙ ap (λ s. live_cells code.classes s.state.cells) (sym end);
        same_turns = same_turns ∙ ap (λ s. s.state.turns) (sym end);
        same_output = same_output ∙ stopped.any_is ∙ ap (λ s. has_bytes s.state.output) (sym end);
      }
